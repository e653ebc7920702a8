-- A memory of one of two kinds keeps the rules, if each kind does. Assumes nothing.
use Rattle.std.specs.Prelude.{◌≡◌, ℕ, ◌%◌, ◌<◌, ◌≤◌, Ok, Err}
use Rattle.base.specs.declared.bus.Request.{Request}
use Rattle.base.specs.declared.bus.Request.TheVariants.{Read, Write}
use Rattle.either.specs.declared.Either.{Either}
use Rattle.either.specs.declared.Either.TheVariants.{Left, Right}
use Rattle.memory.specs.declared.Answer.TheVariants.{Word, Done}
use Rattle.memory.specs.declared.Unserved.TheVariants.{Wait, Outside}
use Rattle.memory.specs.Meaning.{Reply, Meaning, Lawful, View, Same, Served}
use Rattle.memory.specs.Sums.{sum_view, sum_means}

-- What is seen of a memory through f is seen of what f gives: the same rules are kept there.
module _ {N M : Type 0} (v : View M) (f : N → M) where
  abbrev seen : View N
  seen = record {
    size = λ n. v.size (f n);
    byte = λ n. v.byte (f n);
    waits = λ n. v.waits (f n);
    longest = λ n. v.longest (f n);
  }

  same_out : (m n : N) → Same seen m n → Same v (f m) (f n)
  same_out m n s = record { size = s.size; byte = s.byte; longest = s.longest }

  served_out : (m n : N) (q : Request) (r : Reply) → Served seen m q r n → Served v (f m) q r (f n)
  served_out m n q (Err Wait) h = (h.0, h.1, same_out m n h.2)
  served_out m n q (Err Outside) h = (h.0, same_out m n h.1)
  served_out m n (Read a) (Ok (Word w)) h = (h.0, h.1, same_out m n h.2)
  served_out m n (Write a w l) (Ok Done) h =
      (h.0, record { size = h.1.size; byte = h.1.byte; longest = h.1.longest })
  served_out m n _ _ h = h

module _ {A B : Type 0} {l : Meaning A} {m : Meaning B} (one : Lawful l) (other : Lawful m) where
  abbrev top : View (Either A B)
  top = sum_view l.view m.view

  aligned : (s : Either A B) → top.size s % 16 ≡ 0
  aligned (Left a) = one.aligned a
  aligned (Right b) = other.aligned b

  fits : (s : Either A B) (x : ℕ) → top.byte s x < 256
  fits (Left a) = one.fits a
  fits (Right b) = other.fits b

  patient : (s : Either A B) (q : Request) → top.waits s q ≤ top.longest s
  patient (Left a) = one.patient a
  patient (Right b) = other.patient b

  serve : (s t : Either A B) (q : Request) (r : Reply) → (sum_means l m).serves s q r t
      → Served top s q r t
  serve (Left a) (Left b) q r h = served_out top Left a b q r (one.serve a b q r h)
  serve (Right a) (Right b) q r h = served_out top Right a b q r (other.serve a b q r h)
  serve _ _ q r h = absurd h

  idle : (s t : Either A B) → (sum_means l m).idles s t → Same top s t
  idle (Left a) (Left b) h = same_out top Left a b (one.idle a b h)
  idle (Right a) (Right b) h = same_out top Right a b (other.idle a b h)
  idle _ _ h = absurd h

  pub sum_lawful : Lawful (sum_means l m)
  sum_lawful = record { aligned = aligned; fits = fits; patient = patient; serve = serve; idle = idle }
