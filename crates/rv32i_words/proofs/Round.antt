-- Decoding undoes encoding, and encoding undoes decoding. Assumes nothing.
use Rattle.std.proofs.Common.{◌≡◌, ℕ, ◌+◌, ◌*◌, ◌/◌, ◌%◌, ◌^◌, ◌<◌, Bool, true, false, eqb, ltb, [], ◌∷◌, ℤ, pos, neg_ℤ, Some, None, Ok, Err, IfOk, Option, Result, sym, refl, ap, ◌∙◌, subst, arith}
use Rattle.std.specs.Prelude.{if◌then◌else◌}
use lib.Pow.{split}
use lib.Signed.{le_z, lt_z}
use Rattle.std.proofs.lemmas.Int.{ints}
use Rattle.std.proofs.lemmas.Bool.{eqb-true}
use Rattle.std.proofs.lemmas.Bool.Decides.{nat_tests}
use Rattle.base.specs.declared.refusal.Refusal.{Refusal}
use Rattle.rv32i.specs.declared.register.Register.{Register as Reg}
use Rattle.rv32i.specs.declared.instruction.Condition.{Condition}
use Rattle.rv32i.specs.declared.instruction.Condition.TheVariants.{Eq, Ne, Lt, Ge, Ltu, Geu}
use Rattle.rv32i.specs.declared.instruction.LoadKind.{LoadKind}
use Rattle.rv32i.specs.declared.instruction.LoadKind.TheVariants.{Byte, Half, Word, ByteUnsigned, HalfUnsigned}
use Rattle.rv32i.specs.declared.instruction.StoreKind.{StoreKind}
use Rattle.rv32i.specs.declared.instruction.StoreKind.TheVariants.{Byte as ByteStored, Half as HalfStored, Word as WordStored}
use Rattle.rv32i.specs.declared.instruction.ImmediateOp.{ImmediateOp}
use Rattle.rv32i.specs.declared.instruction.ImmediateOp.TheVariants.{Add as AddImm, Slt as SltImm, Sltu as SltuImm, Xor as XorImm, Or as OrImm, And as AndImm}
use Rattle.rv32i.specs.declared.instruction.ShiftOp.{ShiftOp}
use Rattle.rv32i.specs.declared.instruction.ShiftOp.TheVariants.{Sll as SllImm, Srl as SrlImm, Sra as SraImm}
use Rattle.rv32i.specs.declared.instruction.RegisterOp.{RegisterOp}
use Rattle.rv32i.specs.declared.instruction.RegisterOp.TheVariants.{Add, Sub, Sll, Slt, Sltu, Xor, Srl, Sra, Or, And}
use Rattle.rv32i.specs.declared.instruction.Operation.{Operation}
use Rattle.rv32i.specs.declared.instruction.Operation.TheVariants.{Lui as ALui, Auipc as AnAuipc, Jal as AJal, Jalr as AJalr, Branch as ABranch, Load as ALoad, Store as AStore, Immediate as AnImmediate, Shift as AShift, Register as ARegister}
use Rattle.rv32i.specs.declared.instruction.Instruction.{Instruction}
use Rattle.rv32i.specs.declared.instruction.Instruction.TheVariants.{Lui, Auipc, Jal, Jalr, Branch, Load, Store, Immediate, Shift, Register, Fence, Ecall, Ebreak}
use Rattle.rv32i_words.specs.Fields.{opcode_of, rd_of, funct3_of, rs1_of, rs2_of, funct7_of, word_of}
use Rattle.rv32i_words.specs.Immediates.{low_bits, imm_11_0, b_immediate, branch_low, branch_high, j_immediate, jump_high, u_immediate}
use Rattle.rv32i_words.specs.Operations.{Column, pick, at_00_only, at_00_or_20, branch_column, load_column, store_column, op_imm_column, op_column, jalr_column, misc_mem_column, system_column, opcode_column, operation_by, operation_of}
use Rattle.rv32i.specs.Signs.{signed}
use Rattle.rv32i_words.specs.Words.{instruction_by_fields, if_any, decoded_by, decoded, condition_code, load_code, store_code, immediate_code, shift_codes, register_codes, word_if, word_u, word_j, word_i, word_s, word_b, encoded, Encodes, Undone, Restored}
use Rattle.rv32i.proofs.Numbered.{register_of}
use Rattle.rv32i_words.proofs.SixFields.{opcode_word, rd_word, funct3_word, rs1_word, rs2_word, funct7_word, word_fields, rest_is}

-- ---- the pieces of an immediate

-- a signed number in range is that of its low bits, at 12, 13 and 21 bits
low_12 : (z : ℤ) → le_z (neg_ℤ (pos 2048)) z ≡ true → lt_z z (pos 2048) ≡ true → signed 2048 (low_bits 2048 z) ≡ z
low_12 z lo hi = grind (arith, ints, nat_tests)

low_13 : (z : ℤ) → le_z (neg_ℤ (pos 4096)) z ≡ true → lt_z z (pos 4096) ≡ true → signed 4096 (low_bits 4096 z) ≡ z
low_13 z lo hi = grind (arith, ints, nat_tests)

low_21 : (z : ℤ) → le_z (neg_ℤ (pos (2 ^ 20))) z ≡ true → lt_z z (pos (2 ^ 20)) ≡ true → signed (2 ^ 20) (low_bits (2 ^ 20) z) ≡ z
low_21 z lo hi = grind (arith, ints, nat_tests)

-- the pieces of an even number, put into fields and taken out again
branch_joined : (n : ℕ) → n < 2 ^ 13 → n % 2 ≡ 0 → b_immediate (branch_low n) (branch_high n) ≡ n
branch_joined n h e = grind arith

jump_joined : (n : ℕ) → n < 2 ^ 21 → n % 2 ≡ 0 → j_immediate (n / 2 ^ 12 % 2 ^ 3) (n / 2 ^ 15 % 2 ^ 5) (branch_low n) (jump_high n) ≡ n
jump_joined n h e = grind arith

upper_joined : (v : ℕ) → v < 2 ^ 32 → v % 2 ^ 12 ≡ 0 → u_immediate (funct3_of v) (rs1_of v) (rs2_of v) (funct7_of v) ≡ v
upper_joined v h e = grind arith

-- ---- decoding undoes encoding

-- a word made of six fields is decoded by them
decoded_word : (op d f3 r1 r2 f7 : ℕ) (o : Operation) (i : Instruction) → op < 2 ^ 7 → d < 2 ^ 5 → f3 < 2 ^ 3 → r1 < 2 ^ 5 → r2 < 2 ^ 5 → f7 < 2 ^ 7
    → ((rest : ℕ) → operation_by op f3 f7 rest ≡ Some o)
    → instruction_by_fields o d f3 r1 r2 f7 ≡ i
    → decoded (word_of op d f3 r1 r2 f7) ≡ Some i
unfolding decoded
decoded_word op d f3 r1 r2 f7 o i h0 h1 h2 h3 h4 h5 e t =
    rw (
      opcode_word op d f3 r1 r2 f7 h0 h1 h2 h3 h4 h5,
      rd_word op d f3 r1 r2 f7 h0 h1 h2 h3 h4 h5,
      funct3_word op d f3 r1 r2 f7 h0 h1 h2 h3 h4 h5,
      rs1_word op d f3 r1 r2 f7 h0 h1 h2 h3 h4 h5,
      rs2_word op d f3 r1 r2 f7 h0 h1 h2 h3 h4 h5,
      funct7_word op d f3 r1 r2 f7 h0 h1 h2 h3 h4 h5,
      e (f7 * 2 ^ 18 + r2 * 2 ^ 13 + r1 * 2 ^ 8 + f3 * 2 ^ 5 + d),
      t,
    )

module _ (op : ℕ) (o : Operation) (i : Instruction) (h0 : op < 2 ^ 7) where
  restored_u : (d : Reg) (v : ℕ) → ((f3 f7 rest : ℕ) → operation_by op f3 f7 rest ≡ Some o)
      → ((f3 r1 r2 f7 : ℕ) → u_immediate f3 r1 r2 f7 ≡ v → instruction_by_fields o d.number f3 r1 r2 f7 ≡ i) → Restored (word_u op d.number v) i
  restored_u d v e t =
      let w = decoded_word op d.number (funct3_of v) (rs1_of v) (rs2_of v) (funct7_of v) o i h0 d.ok (omega arith) (omega arith) (omega arith) (omega arith) (e (funct3_of v) (funct7_of v)) in
      let j = upper_joined v in
      let k = t (funct3_of v) (rs1_of v) (rs2_of v) (funct7_of v) in
      grind (arith, nat_tests)

  restored_j : (d : Reg) (z : ℤ) → ((f3 f7 rest : ℕ) → operation_by op f3 f7 rest ≡ Some o)
      → ((f3 r1 r2 f7 : ℕ) → signed (2 ^ 20) (j_immediate f3 r1 r2 f7) ≡ z → instruction_by_fields o d.number f3 r1 r2 f7 ≡ i) → Restored (word_j op d.number z) i
  restored_j d z e t =
      let n : ℕ = low_bits (2 ^ 20) z in
      let f3 : ℕ = n / 2 ^ 12 % 2 ^ 3 in
      let r1 : ℕ = n / 2 ^ 15 % 2 ^ 5 in
      let w = decoded_word op d.number f3 r1 (branch_low n) (jump_high n) o i h0 d.ok (omega arith) (omega arith) (omega arith) (omega arith) (e f3 (jump_high n)) in
      let low = low_21 z in
      let joined = jump_joined n (omega arith) in
      let k = t f3 r1 (branch_low n) (jump_high n) in
      grind (arith, nat_tests)

  module _ (f3 : ℕ) (h2 : f3 < 2 ^ 3) (e : (f7 rest : ℕ) → operation_by op f3 f7 rest ≡ Some o) where
    restored_i : (d r1 : Reg) (z : ℤ) → ((r2 f7 : ℕ) → signed 2048 (imm_11_0 r2 f7) ≡ z → instruction_by_fields o d.number f3 r1.number r2 f7 ≡ i)
        → Restored (word_i op f3 d.number r1.number z) i
    restored_i d r1 z t =
        let n : ℕ = low_bits 2048 z in
        let w = decoded_word op d.number f3 r1.number (n % 2 ^ 5) (n / 2 ^ 5) o i h0 d.ok h2 r1.ok (omega arith) (omega arith) (e (n / 2 ^ 5)) in
        let low = low_12 z in
        let joined : imm_11_0 (n % 2 ^ 5) (n / 2 ^ 5) ≡ n = split n 5 in
        let k = t (n % 2 ^ 5) (n / 2 ^ 5) in
        grind (arith, nat_tests)

    restored_s : (r1 r2 : Reg) (z : ℤ) → ((d f7 : ℕ) → signed 2048 (imm_11_0 d f7) ≡ z → instruction_by_fields o d f3 r1.number r2.number f7 ≡ i)
        → Restored (word_s op f3 r1.number r2.number z) i
    restored_s r1 r2 z t =
        let n : ℕ = low_bits 2048 z in
        let w = decoded_word op (n % 2 ^ 5) f3 r1.number r2.number (n / 2 ^ 5) o i h0 (omega arith) h2 r1.ok r2.ok (omega arith) (e (n / 2 ^ 5)) in
        let low = low_12 z in
        let joined : imm_11_0 (n % 2 ^ 5) (n / 2 ^ 5) ≡ n = split n 5 in
        let k = t (n % 2 ^ 5) (n / 2 ^ 5) in
        grind (arith, nat_tests)

    restored_b : (r1 r2 : Reg) (z : ℤ) → ((d f7 : ℕ) → signed 4096 (b_immediate d f7) ≡ z → instruction_by_fields o d f3 r1.number r2.number f7 ≡ i)
        → Restored (word_b op f3 r1.number r2.number z) i
    restored_b r1 r2 z t =
        let n : ℕ = low_bits 4096 z in
        let w = decoded_word op (branch_low n) f3 r1.number r2.number (branch_high n) o i h0 (omega arith) h2 r1.ok r2.ok (omega arith) (e (branch_high n)) in
        let low = low_13 z in
        let joined = branch_joined n (omega arith) in
        let k = t (branch_low n) (branch_high n) in
        grind (arith, nat_tests)

pub restored : (i : Instruction) → Restored (encoded i) i
unfolding decoded
restored (Lui d v) = restored_u 0x37 ALui (Lui d v) (omega arith) d v (λ f3 f7 rest. refl) (λ f3 r1 r2 f7 e. rw (register_of d, e))
restored (Auipc d v) = restored_u 0x17 AnAuipc (Auipc d v) (omega arith) d v (λ f3 f7 rest. refl) (λ f3 r1 r2 f7 e. rw (register_of d, e))
restored (Jal d z) = restored_j 0x6f AJal (Jal d z) (omega arith) d z (λ f3 f7 rest. refl) (λ f3 r1 r2 f7 e. rw (register_of d, e))
restored (Jalr d r z) = restored_i 0x67 AJalr (Jalr d r z) (omega arith) 0 (omega arith) (λ f7 rest. refl) d r z (λ r2 f7 e. rw (register_of d, register_of r, e))
restored (Branch c r q z) =
    restored_b 0x63 (ABranch c) (Branch c r q z) (omega arith) (condition_code c) (grind arith) (λ f7 rest. grind arith) r q z
    (λ d f7 e. rw (register_of r, register_of q, e))
restored (Load k d r z) =
    restored_i 0x03 (ALoad k) (Load k d r z) (omega arith) (load_code k) (grind arith) (λ f7 rest. grind arith) d r z
    (λ r2 f7 e. rw (register_of d, register_of r, e))
restored (Store k r q z) =
    restored_s 0x23 (AStore k) (Store k r q z) (omega arith) (store_code k) (grind arith) (λ f7 rest. grind arith) r q z
    (λ d f7 e. rw (register_of r, register_of q, e))
restored (Immediate o d r z) =
    restored_i 0x13 (AnImmediate o) (Immediate o d r z) (omega arith) (immediate_code o) (grind arith) (λ f7 rest. grind arith) d r z
    (λ r2 f7 e. rw (register_of d, register_of r, e))
restored (Shift o d r n) =
    let w : n < 2 ^ 5 → decoded (word_of 0x13 d.number (shift_codes o).0 r.number n (shift_codes o).1) ≡ Some (Shift o d r n) =
    λ h.
    decoded_word 0x13 d.number (shift_codes o).0 r.number n (shift_codes o).1 (AShift o) (Shift o d r n)
    (omega arith) d.ok (grind arith) r.ok h (grind arith) (λ rest. grind arith) (rw (register_of d, register_of r)) in
    grind (arith, nat_tests)
restored (Register o d r q) =
    decoded_word 0x33 d.number (register_codes o).0 r.number q.number (register_codes o).1 (ARegister o) (Register o d r q)
    (omega arith) d.ok (grind arith) r.ok q.ok (grind arith) (λ rest. grind arith) (rw (register_of d, register_of r, register_of q))
restored Fence = refl
restored Ecall = refl
restored Ebreak = refl

-- so the word that an encoding answers decodes to the instruction
pub decodes_back : (i : Instruction) (r : Result ℕ Refusal) → Encodes (encoded i) r → IfOk r (λ w. decoded w ≡ Some i)
decodes_back i (Ok w) h = subst (λ (x : Option ℕ). Restored x i) h (restored i)
decodes_back i (Err why) h = tt

-- ---- encoding undoes decoding

-- what holds at each code of a column, and where there is none
data Each (P : Option Operation → Type 0) (n : ℕ) : Column → Type 0 where
  nowhere : P None → Each P n []
  ◌at_or◌ : {c : ℕ} {x : Option Operation} {es : Column} → (n ≡ c → P x) → Each P n es → Each P n ((c, x) ∷ es)

infixr 20 ◌at_or◌
picked_by : (P : Option Operation → Type 0) (b : Bool) (n c : ℕ) (x y : Option Operation) → eqb n c ≡ b → (n ≡ c → P x) → P y → P (if b then x else y)
picked_by P true n c x y e f k = f (eqb-true n c e)
picked_by P false n c x y e f k = k

-- holds of what is picked
picked : {P : Option Operation → Type 0} {n : ℕ} {es : Column} → Each P n es → P (pick n es)
picked (nowhere k) = k
picked {P} {n} (◌at_or◌ {c} {x} {es} k ks) = picked_by P (eqb n c) n c x (pick n es) refl k (picked ks)

module _ (d f3 r1 r2 f7 : ℕ) (h1 : d < 2 ^ 5) (h2 : f3 < 2 ^ 3) (h3 : r1 < 2 ^ 5) (h4 : r2 < 2 ^ 5) (h5 : f7 < 2 ^ 7) where
  undone_u : (op : ℕ) → word_u op (d % 32) (u_immediate f3 r1 r2 f7) ≡ Some (word_of op d f3 r1 r2 f7)
  undone_u op = grind (arith, ints, nat_tests)

  undone_j : (op : ℕ) → word_j op (d % 32) (signed (2 ^ 20) (j_immediate f3 r1 r2 f7)) ≡ Some (word_of op d f3 r1 r2 f7)
  undone_j op = grind (arith, ints, nat_tests)

  undone_i : (op : ℕ) → word_i op f3 (d % 32) (r1 % 32) (signed 2048 (imm_11_0 r2 f7)) ≡ Some (word_of op d f3 r1 r2 f7)
  undone_i op = grind (arith, ints, nat_tests)

  undone_s : (op : ℕ) → word_s op f3 (r1 % 32) (r2 % 32) (signed 2048 (imm_11_0 d f7)) ≡ Some (word_of op d f3 r1 r2 f7)
  undone_s op = grind (arith, ints, nat_tests)

  undone_b : (op : ℕ) → word_b op f3 (r1 % 32) (r2 % 32) (signed 4096 (b_immediate d f7)) ≡ Some (word_of op d f3 r1 r2 f7)
  undone_b op = grind (arith, ints, nat_tests)

  undone_shift : word_if (ltb r2 32) (Some (word_of 0x13 (d % 32) f3 (r1 % 32) r2 f7)) ≡ Some (word_of 0x13 d f3 r1 r2 f7)
  undone_shift = grind (arith, nat_tests)

  undone_register : word_of 0x33 (d % 32) f3 (r1 % 32) (r2 % 32) f7 ≡ word_of 0x33 d f3 r1 r2 f7
  undone_register = grind arith

  abbrev Kept : ℕ → Option Operation → Type 0
  Kept op o = Undone (if_any o d f3 r1 r2 f7) (word_of op d f3 r1 r2 f7)

  at_branch : (c : Condition) (op : ℕ) → op ≡ 0x63 → f3 ≡ condition_code c → Kept op (Some (ABranch c))
  at_branch c op e g = λ _. rw (e, ← g) (undone_b 0x63)

  at_load : (k : LoadKind) (op : ℕ) → op ≡ 0x03 → f3 ≡ load_code k → Kept op (Some (ALoad k))
  at_load k op e g = λ _. rw (e, ← g) (undone_i 0x03)

  at_store : (k : StoreKind) (op : ℕ) → op ≡ 0x23 → f3 ≡ store_code k → Kept op (Some (AStore k))
  at_store k op e g = λ _. rw (e, ← g) (undone_s 0x23)

  at_immediate : (o : ImmediateOp) (op : ℕ) → op ≡ 0x13 → f3 ≡ immediate_code o → Kept op (Some (AnImmediate o))
  at_immediate o op e g = λ _. rw (e, ← g) (undone_i 0x13)

  at_shift : (o : ShiftOp) (op : ℕ) → op ≡ 0x13 → f3 ≡ (shift_codes o).0 → f7 ≡ (shift_codes o).1 → Kept op (Some (AShift o))
  at_shift o op e g k = λ _. rw (e, ← g, ← k) undone_shift

  at_register : (o : RegisterOp) (op : ℕ) → op ≡ 0x33 → f3 ≡ (register_codes o).0 → f7 ≡ (register_codes o).1 → Kept op (Some (ARegister o))
  at_register o op e g k = λ _. rw (e, ← g, ← k) (ap (λ (x : ℕ). Some x) undone_register)

  module _ (op : ℕ) where
    abbrev EachKept : ℕ → Column → Type 0
    EachKept = Each (Kept op)

    at_plain : (o : Operation) → (f7 ≡ 0x00 → Kept op (Some o)) → Kept op (pick f7 (at_00_only o))
    at_plain o k = let all : EachKept f7 (at_00_only o) = k at_or nowhere tt in picked all

    at_two : (o p : Operation) → (f7 ≡ 0x00 → Kept op (Some o)) → (f7 ≡ 0x20 → Kept op (Some p)) → Kept op (pick f7 (at_00_or_20 o p))
    at_two o p k l = let all : EachKept f7 (at_00_or_20 o p) = k at_or l at_or nowhere tt in picked all

    at_branches : op ≡ 0x63 → EachKept f3 branch_column
    at_branches e = at_branch Eq op e at_or at_branch Ne op e at_or at_branch Lt op e at_or at_branch Ge op e at_or at_branch Ltu op e at_or at_branch Geu op e at_or nowhere tt

    at_loads : op ≡ 0x03 → EachKept f3 load_column
    at_loads e = at_load Byte op e at_or at_load Half op e at_or at_load Word op e at_or at_load ByteUnsigned op e at_or at_load HalfUnsigned op e at_or nowhere tt

    at_stores : op ≡ 0x23 → EachKept f3 store_column
    at_stores e = at_store ByteStored op e at_or at_store HalfStored op e at_or at_store WordStored op e at_or nowhere tt

    at_immediates : op ≡ 0x13 → EachKept f3 (op_imm_column f7)
    at_immediates e =
        at_immediate AddImm op e
        at_or at_immediate SltImm op e
        at_or at_immediate SltuImm op e
        at_or at_immediate XorImm op e
        at_or at_immediate OrImm op e
        at_or at_immediate AndImm op e
        at_or (λ g. at_plain (AShift SllImm) (at_shift SllImm op e g))
        at_or (λ g. at_two (AShift SrlImm) (AShift SraImm) (at_shift SrlImm op e g) (at_shift SraImm op e g))
        at_or nowhere tt

    at_registers : op ≡ 0x33 → EachKept f3 (op_column f7)
    at_registers e =
        (λ g. at_two (ARegister Add) (ARegister Sub) (at_register Add op e g) (at_register Sub op e g))
        at_or (λ g. at_plain (ARegister Sll) (at_register Sll op e g))
        at_or (λ g. at_plain (ARegister Slt) (at_register Slt op e g))
        at_or (λ g. at_plain (ARegister Sltu) (at_register Sltu op e g))
        at_or (λ g. at_plain (ARegister Xor) (at_register Xor op e g))
        at_or (λ g. at_two (ARegister Srl) (ARegister Sra) (at_register Srl op e g) (at_register Sra op e g))
        at_or (λ g. at_plain (ARegister Or) (at_register Or op e g))
        at_or (λ g. at_plain (ARegister And) (at_register And op e g))
        at_or nowhere tt

    at_jalr : op ≡ 0x67 → EachKept f3 jalr_column
    at_jalr e = (λ g _. rw (e, g) (rw g at (undone_i 0x67))) at_or nowhere tt

    at_fence : op ≡ 0x0f → EachKept f3 misc_mem_column
    at_fence e = (λ g h. ap (λ (x : ℕ). Some x) (sym (h refl))) at_or nowhere tt

    abbrev rest : ℕ
    rest = f7 * 2 ^ 18 + r2 * 2 ^ 13 + r1 * 2 ^ 8 + f3 * 2 ^ 5 + d

    at_calls : op ≡ 0x73 → EachKept rest system_column
    at_calls e = (λ g _. ap (λ (x : ℕ). Some x) (omega arith)) at_or (λ g _. ap (λ (x : ℕ). Some x) (omega arith)) at_or nowhere tt

    at_opcodes : EachKept op (opcode_column f3 f7 rest)
    at_opcodes =
        (λ e _. rw e (undone_u 0x37))
        at_or (λ e _. rw e (undone_u 0x17))
        at_or (λ e _. rw e (undone_j 0x6f))
        at_or (λ e. picked (at_jalr e))
        at_or (λ e. picked (at_branches e))
        at_or (λ e. picked (at_loads e))
        at_or (λ e. picked (at_stores e))
        at_or (λ e. picked (at_immediates e))
        at_or (λ e. picked (at_registers e))
        at_or (λ e. picked (at_fence e))
        at_or (λ e. picked (at_calls e))
        at_or nowhere tt

    undone_by : Kept op (operation_by op f3 f7 rest)
    undone_by = picked at_opcodes

pub undone : (w : ℕ) → w < 2 ^ 32 → Undone (decoded w) w
unfolding decoded
undone w h =
    subst (λ (x : ℕ). Undone (decoded_by (opcode_of w) (rd_of w) (funct3_of w) (rs1_of w) (rs2_of w) (funct7_of w)) x) (word_fields w h)
    (undone_by (rd_of w) (funct3_of w) (rs1_of w) (rs2_of w) (funct7_of w) (omega arith) (omega arith) (omega arith) (omega arith) (omega arith) (opcode_of w))

-- what the search found and what is read off the fields is what the word holds
pub decoded_from : (w : ℕ) → w < 2 ^ 32 → (o : Option Operation) → o ≡ operation_of w
    → if_any o (rd_of w) (funct3_of w) (rs1_of w) (rs2_of w) (funct7_of w) ≡ decoded w
unfolding decoded
decoded_from w h o e =
    ap (λ (x : Option Operation). if_any x (rd_of w) (funct3_of w) (rs1_of w) (rs2_of w) (funct7_of w))
    (e ∙ ap (λ (x : ℕ). operation_by (opcode_of w) (funct3_of w) (funct7_of w) x) (sym (rest_is w h)))
