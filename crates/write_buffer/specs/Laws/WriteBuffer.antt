-- A write buffer keeps the rules, if the memory below does. Assumes nothing.
use Rattle.std.specs.Prelude.{◌≡◌, ℕ, ◌+◌, ◌*◌, ◌%◌, ◌<◌, ◌≤◌, Bool, true, false, if◌then◌else◌, List, [], ◌∷◌, length, drop, nat_le, refl, Ok, Err}
use Rattle.std.proofs.Common.{sym, ap, ◌∙◌, inl, inr, arith}
use Rattle.std.proofs.lemmas.List.Sums.{fold_push}
use Rattle.std.proofs.lemmas.Bool.{leb-true, lt-leb, cond-true, cond-false, cases_Bool, cond_both, both_ways}
use Rattle.std.proofs.lemmas.Bool.Decides.{when_true, when_false}
use Rattle.base.specs.Bytes.{within, put}
use Rattle.base.specs.declared.bus.Lanes.{Lanes}
use Rattle.base.specs.declared.bus.Request.{Request}
use Rattle.base.specs.declared.bus.Request.TheVariants.{Read, Write}
use Rattle.memory.specs.Meaning.{Reply}
use Rattle.memory.specs.declared.Answer.TheVariants.{Word, Done}
use Rattle.memory.specs.declared.Unserved.TheVariants.{Wait, Outside}
use Rattle.write_buffer.specs.declared.posted.PostedWrite.{PostedWrite}
use Rattle.write_buffer.specs.PostedWrites.{oldest, overlay, over}
use Rattle.memory.specs.Meaning.{View, Meaning, Lawful, Same, Changed, Served, request_address}
use Rattle.write_buffer.specs.WriteBuffer.{WriteBuffer, request_of, writes_after, read_waits, writes_of, buffer_is_sound, buffer_waits, buffer_view, buffer_means, Takes, Sends, InTurn, Accepts, BufferServes, Idles}
use Rattle.memory.proofs.Rules.{same_as, fixed, layer_within, layer_aligned, layer_patient, layer_fewer}

over_same : {s t y z : ℕ} {ps qs : List PostedWrite} (x : ℕ) → s ≡ t → ps ≡ qs → y ≡ z → over s ps x y ≡ over t qs x z
over_same x es eps ey = λ i. over (es i) (eps i) x (ey i)

byte_fits : (b : Bool) (w y : ℕ) → y < 256 → (if b then w % 256 else y) < 256
byte_fits true w y h = omega arith
byte_fits false w y h = h

put_fits : (a w x y : ℕ) (l : Lanes) → y < 256 → put (λ _. y) a w l x < 256
put_fits a w x y l h = search byte_fits

over_fits : (size x : ℕ) (ps : List PostedWrite) (y : ℕ) → y < 256 → over size ps x y < 256
over_fits size x [] y h = h
over_fits size x (p ∷ ps) y h =
    over_fits size x ps (overlay size x y p) (cond_both _ _ _ (λ z. z < 256) (λ _. put_fits p.address p.word x y p.lanes h) (λ _. h))

-- four held writes, and then a read, wait as long as a write buffer may
behind_bound : (l : ℕ) (ps : List PostedWrite) → length ps ≤ 4 → read_waits l ps ≤ 5 * l + 4
behind_bound l [] h = omega arith
behind_bound l (p ∷ []) h = omega arith
behind_bound l (p ∷ q ∷ []) h = omega arith
behind_bound l (p ∷ q ∷ r ∷ []) h = omega arith
behind_bound l (p ∷ q ∷ r ∷ s ∷ []) h = omega arith
behind_bound l (p ∷ q ∷ r ∷ s ∷ t ∷ ps) h = absurd (omega arith)

module _ {M : Type 0} {m : Meaning M} (laws : Lawful m) where
  abbrev low : View M
  low = m.view

  abbrev top : View (WriteBuffer M)
  top = buffer_view m.view

  -- the waits left

  read_behind : (n : M) (ps : List PostedWrite) (a : ℕ) → buffer_waits low n ps (Read a) ≤ read_waits (low.longest n) ps
  read_behind n [] a = laws.patient n (Read a)
  read_behind n (p ∷ ps) a = omega (arith, laws.patient n (request_of p))

  write_room : (n : M) (ps : List PostedWrite) (a w : ℕ) (l : Lanes) → length ps < 4 → buffer_waits low n ps (Write a w l) ≡ 0
  write_room n [] a w l h = refl
  write_room n (p ∷ ps) a w l h = cond-false _ _ _ (lt-leb _ _ h)

  bounded : (n : M) (ps : List PostedWrite) (q : Request) → length ps ≤ 4 → buffer_waits low n ps q ≤ 5 * low.longest n + 4
  bounded n ps (Read a) h = omega (arith, read_behind n ps a, behind_bound (low.longest n) ps h)
  bounded n [] (Write a w l) h = omega arith
  bounded n (p ∷ ps) (Write a w l) h =
      let k = laws.patient n (request_of p) in
      cond_both (nat_le 4 (length (p ∷ ps))) (low.waits n (request_of p) + 1) 0 (λ z. z ≤ 5 * low.longest n + 4) (λ _. omega arith) (λ _. omega arith)

  few : (b : WriteBuffer M) → length (writes_of b) ≤ 4
  few b = b.posted.room

  -- what is seen after a call

  same : (b c : WriteBuffer M) → Same low b.below c.below → writes_of c ≡ writes_of b → Same top b c
  same b c h e = let z = h.size in let l = h.longest in record { size = cc; byte = λ x. over_same x z e (h.byte x); longest = cc }

  -- the oldest held write, p, has left: what it laid over the bytes below is there now
  gone : (b c : WriteBuffer M) (p : PostedWrite) (ps : List PostedWrite) → writes_of b ≡ p ∷ ps → writes_of c ≡ drop 1 (writes_of b) → low.size c.below ≡ low.size b.below → (x : ℕ) → low.byte c.below x ≡ overlay (low.size b.below) x (low.byte b.below x) p → top.byte c x ≡ top.byte b x
  gone b c p ps e k z x y = over_same x z (k ∙ ap (drop 1) e) y ∙ over_same x refl (sym e) refl

  sends : (b c : WriteBuffer M) (p : PostedWrite) (ps : List PostedWrite) (r : Reply) → writes_of b ≡ p ∷ ps → Served low b.below (request_of p) r c.below → writes_of c ≡ writes_after (writes_of b) r → Same top b c
  sends b c p ps (Err Wait) e h k = same b c h.2 k
  sends b c p ps (Err Outside) e h k =
      let z = h.1.size in
      let l = h.1.longest in
      record { size = cc; byte = λ x. gone b c p ps e k z x (h.1.byte x ∙ sym (cond-false _ _ _ h.0)); longest = cc }
  sends b c p ps (Ok Done) e h k =
      let z = h.1.size in
      let l = h.1.longest in
      record { size = cc; byte = λ x. gone b c p ps e k z x (h.1.byte x ∙ sym (cond-true _ _ _ h.0)); longest = cc }
  sends b c p ps _ e h k = absurd h

  -- a request that waits behind a held write, which is sent below, has fewer waits left
  read_fewer : (n o : M) (p : PostedWrite) (ps : List PostedWrite) (r : Reply) (a : ℕ) → Served low n (request_of p) r o → buffer_waits low o (writes_after (p ∷ ps) r) (Read a) < buffer_waits low n (p ∷ ps) (Read a)
  read_fewer n o p ps (Err Wait) a h = omega (arith, ap (λ l. read_waits l ps) h.2.longest)
  read_fewer n o p ps (Err Outside) a h = omega (arith, read_behind o ps a, ap (λ l. read_waits l ps) h.1.longest)
  read_fewer n o p ps (Ok Done) a h = omega (arith, read_behind o ps a, ap (λ l. read_waits l ps) h.1.longest)
  read_fewer n o p ps _ a h = absurd h

  write_fewer : (n o : M) (p : PostedWrite) (ps : List PostedWrite) (r : Reply) (a w : ℕ) (l : Lanes) → length (p ∷ ps) ≤ 4 → nat_le 4 (length (p ∷ ps)) ≡ true → Served low n (request_of p) r o → buffer_waits low o (writes_after (p ∷ ps) r) (Write a w l) < buffer_waits low n (p ∷ ps) (Write a w l)
  write_fewer n o p ps (Err Wait) a w l few full h = rw (cond-true _ (low.waits o (request_of p) + 1) 0 full, cond-true _ (low.waits n (request_of p) + 1) 0 full) (omega arith)
  write_fewer n o p ps _ a w l few full h = rw (write_room o ps a w l (omega arith), cond-true _ (low.waits n (request_of p) + 1) 0 full) (omega arith)

  -- a write that is taken is laid over all that is held
  takes : (b c : WriteBuffer M) (a w : ℕ) (l : Lanes) → within (low.size b.below) a ≡ true → Takes m b (record { address = a; word = w; lanes = l }) c → Changed top b a w l c
  takes b c a w l e h =
      let i = laws.idle _ _ h.below in
      let z = i.size in
      let k = i.longest in
      record {
        size = cc;
        byte = λ x. over_same x z h.writes (i.byte x) ∙ fold_push (overlay (low.size b.below) x) _ (writes_of b) _ ∙ cond-true _ _ _ e;
        longest = cc;
      }

  -- with none held the bytes are those below
  bare : (b : WriteBuffer M) → writes_of b ≡ [] → (x : ℕ) → top.byte b x ≡ low.byte b.below x
  bare b e x = over_same x refl e refl

  fewer : (b c : WriteBuffer M) (q : Request) → within (top.size b) (request_address q) ≡ true → low.longest c.below ≡ low.longest b.below → buffer_waits low c.below (writes_of c) q < buffer_waits low b.below (writes_of b) q → top.waits c q < top.waits b q
  fewer b c q e l h = layer_fewer (buffer_is_sound low b) (buffer_is_sound low c) _ _ (layer_within _ _ (request_address q) e).0 (cc) h

  passes : (b c : WriteBuffer M) (a : ℕ) (r : Reply) → within (top.size b) a ≡ true → writes_of b ≡ [] → writes_of c ≡ writes_of b → Served low b.below (Read a) r c.below → Served top b (Read a) r c
  passes b c a (Err Wait) e k j h = (e, fewer b c (Read a) e h.2.longest (rw (j, k) h.1), same b c h.2 j)
  passes b c a (Err Outside) e k j h = absurd (both_ways _ h.0 (layer_within _ _ a e).1)
  passes b c a (Ok (Word w)) e k j h = (e, h.1 ∙ simp (bare b k), same b c h.2 j)
  passes b c a _ e k j h = h

  waits_behind : (b c : WriteBuffer M) (q : Request) (p : PostedWrite) (ps : List PostedWrite) → within (top.size b) (request_address q) ≡ true → writes_of b ≡ p ∷ ps → Sends m b p c → ((r : Reply) → Served low b.below (request_of p) r c.below → buffer_waits low c.below (writes_after (p ∷ ps) r) q < buffer_waits low b.below (p ∷ ps) q) → Served top b q (Err Wait) c
  waits_behind b c q p ps e k h less =
      let d = laws.serve _ _ (request_of p) h.reply h.below in
      (e, fewer b c q e (fixed low _ _ (request_of p) h.reply d).1 (rw (h.writes, k) (less h.reply d)), sends b c p ps h.reply k d h.writes)

  read : (b c : WriteBuffer M) (a : ℕ) (r : Reply) (ps : List PostedWrite) → within (top.size b) a ≡ true → writes_of b ≡ ps → InTurn m b (oldest ps) (Read a) r c → Served top b (Read a) r c
  read b c a r [] e k h = passes b c a r e k h.writes (laws.serve _ _ _ r h.below)
  read b c a r (p ∷ ps) e k h = rw h.0 (waits_behind b c (Read a) p ps e k h.1 (λ s d. read_fewer _ _ p ps s a d))

  write : (b c : WriteBuffer M) (a w : ℕ) (l : Lanes) (r : Reply) (ps : List PostedWrite) → within (top.size b) a ≡ true → nat_le 4 (length (writes_of b)) ≡ true → writes_of b ≡ ps → InTurn m b (oldest ps) (Write a w l) r c → Served top b (Write a w l) r c
  write b c a w l r [] e full k h = let none : 4 ≤ 0 = leb-true 4 0 (rw k at full) in absurd (omega arith)
  write b c a w l r (p ∷ ps) e full k h = rw h.0 (waits_behind b c (Write a w l) p ps e k h.1 (λ s d. write_fewer _ _ p ps s a w l (rw k at (few b)) (rw k at full) d))

  accepts : (b c : WriteBuffer M) (q : Request) (r : Reply) → within (top.size b) (request_address q) ≡ true → Accepts m b q r c → Served top b q r c
  accepts b c (Read a) r e h = read b c a r (writes_of b) e refl h
  accepts b c (Write a w l) r e h =
      elim (cases_Bool (nat_le 4 (length (writes_of b)))) [
        | inl full ↦ write b c a w l r (writes_of b) e full refl (when_true _ _ full h)
        | inr room ↦ (let k = when_false _ _ room h in rw k.0 (e, takes b c a w l (layer_within _ _ a e).1 k.1))
      ]

  serve : (b c : WriteBuffer M) (q : Request) (r : Reply) → BufferServes m b q r c → Served top b q r c
  serve b c q r h =
      elim (cases_Bool (within (top.size b) (request_address q))) [
        | inl e ↦ accepts b c q r e (when_true _ _ e h)
        | inr e ↦ (let k = when_false _ _ e h in rw k.0 (e, same b c (same_as low k.1.below) k.1.writes))
      ]

  idle : (b c : WriteBuffer M) (ps : List PostedWrite) → writes_of b ≡ ps → Idles m b (oldest ps) c → Same top b c
  idle b c [] k h = same b c (laws.idle _ _ h.0) h.1
  idle b c (p ∷ ps) k h = sends b c p ps h.reply k (laws.serve _ _ _ _ h.below) h.writes

pub buffer_lawful : {M : Type 0} {m : Meaning M} → Lawful m → Lawful (buffer_means m)
buffer_lawful laws = record {
  aligned = λ b. layer_aligned _ _ (laws.aligned b.below);
  fits = λ b x. over_fits _ x (writes_of b) _ (laws.fits b.below x);
  patient = λ b q. layer_patient _ _ _ (bounded laws b.below (writes_of b) q (few laws b));
  serve = serve laws;
  idle = λ b c h. idle laws b c (writes_of b) refl h;
}
