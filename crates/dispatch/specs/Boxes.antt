-- A memory on the heap means what it means elsewhere. Assumes nothing.
use Rattle.std.specs.Prelude.{box_value}
use Rattle.memory.specs.Meaning.{View, Meaning}
use Rattle.dispatch.specs.declared.boxed.Boxed.{Boxed}

module _ {M : Type 0} where
  -- what is on the heap
  abbrev pub inside : Boxed M → M
  inside b = box_value b.memory

  abbrev pub boxed_view : View M → View (Boxed M)
  boxed_view v = record {
    size = λ b. v.size (inside b);
    byte = λ b. v.byte (inside b);
    waits = λ b. v.waits (inside b);
    longest = λ b. v.longest (inside b);
  }

  abbrev pub boxed_means : Meaning M → Meaning (Boxed M)
  boxed_means m = record {
    view = boxed_view m.view;
    serves = λ b q r c. m.serves (inside b) q r (inside c);
    idles = λ b c. m.idles (inside b) (inside c);
  }
