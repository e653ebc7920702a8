use Rattle.std.proofs.Common.{◌≡◌, Option, sym, ◌∙◌, subst, rules}
use Rattle.rv32i.specs.declared.instruction.Instruction.{Instruction}
use Rattle.rv32i_words.specs.Fields.{rd_of, funct3_of, rs1_of, rs2_of, funct7_of}
use Rattle.rv32i_words.specs.Words.{if_any, decoded, Undone}
use Rattle.rv32i_words.proofs.Round.{undone, decoded_from}
use Rattle.rv32i_words.proofs.decoding.decode.Goals as goal

is_decoded : (c : goal.After-map) → c.map.result ≡ decoded c.args.word
is_decoded c =
    let w = c.args.word in
    let e : c.map.result ≡ if_any c.operation_of.result (rd_of w) (funct3_of w) (rs1_of w) (rs2_of w) (funct7_of w) = search rules in
    e ∙ decoded_from w c.ranges.word.fits c.operation_of.result c.operation_of.ensures

pub returns-clause-is : goal.returns-clause-is
returns-clause-is c = is_decoded c

pub returns-clause-undone : goal.returns-clause-undone
returns-clause-undone c =
    subst (λ (x : Option Instruction). Undone x c.args.word) (sym (is_decoded c)) (undone c.args.word c.ranges.word.fits)
