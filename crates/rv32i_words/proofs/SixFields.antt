-- A word is its six fields: each field of a word made of six is what was put there, and a word is made of its own six. Assumes nothing.
use Rattle.std.proofs.Common.{◌≡◌, ℕ, ◌+◌, ◌*◌, ◌/◌, ◌^◌, ◌<◌, arith}
use Rattle.rv32i_words.specs.Fields.{opcode_of, rd_of, funct3_of, rs1_of, rs2_of, funct7_of, word_of}

module _ (op d f3 r1 r2 f7 : ℕ) (h0 : op < 2 ^ 7) (h1 : d < 2 ^ 5) (h2 : f3 < 2 ^ 3) (h3 : r1 < 2 ^ 5) (h4 : r2 < 2 ^ 5) (h5 : f7 < 2 ^ 7) where
  pub opcode_word : opcode_of (word_of op d f3 r1 r2 f7) ≡ op
  opcode_word = grind arith

  pub rd_word : rd_of (word_of op d f3 r1 r2 f7) ≡ d
  rd_word = grind arith

  pub funct3_word : funct3_of (word_of op d f3 r1 r2 f7) ≡ f3
  funct3_word = grind arith

  pub rs1_word : rs1_of (word_of op d f3 r1 r2 f7) ≡ r1
  rs1_word = grind arith

  pub rs2_word : rs2_of (word_of op d f3 r1 r2 f7) ≡ r2
  rs2_word = grind arith

  pub funct7_word : funct7_of (word_of op d f3 r1 r2 f7) ≡ f7
  funct7_word = grind arith

pub word_fields : (w : ℕ) → w < 2 ^ 32 → word_of (opcode_of w) (rd_of w) (funct3_of w) (rs1_of w) (rs2_of w) (funct7_of w) ≡ w
word_fields w h = grind arith

-- the 25 bits above the opcode
pub rest_is : (w : ℕ) → w < 2 ^ 32 → funct7_of w * 2 ^ 18 + rs2_of w * 2 ^ 13 + rs1_of w * 2 ^ 8 + funct3_of w * 2 ^ 5 + rd_of w ≡ w / 2 ^ 7
rest_is w h = grind arith
