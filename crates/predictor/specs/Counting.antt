-- Saturating counters and histories, by their numbers. Assumes nothing.
use Rattle.std.specs.Prelude.{ℕ, ◌+◌, ◌-◌, ◌*◌, ◌/◌, ◌%◌, min, Bool, true, false, List, replicate, bit_xor, nat_le, slice_index, slice_set}

-- ---- one counter

-- one up or one down, within 0 to 3 (a difference of numbers stops at 0)
abbrev pub value_after : ℕ → Bool → ℕ
value_after value true = min (value + 1) 3
value_after value false = value - 1

-- whether it stands in the upper half, from 2 up
abbrev pub is_high : ℕ → Bool
is_high value = nat_le 2 value

-- ---- a table of 256 counters, as the list of their values

-- all of them at first
abbrev pub initial_values : List ℕ
initial_values = replicate 256 1

-- the value of the one at an index
abbrev pub value_at : List ℕ → ℕ → ℕ
value_at values index = slice_index values index

-- all of them, once the one at an index has gone up or down
abbrev pub values_after : List ℕ → ℕ → Bool → List ℕ
values_after values index up = slice_set values index (value_after (value_at values index) up)

-- the index of the one that the branch at that address has
abbrev pub index_of : ℕ → ℕ
index_of address = address / 4 % 256

-- ---- a history, as a number of eight binary digits

-- the outcome of a branch becomes the lowest digit, and the highest is lost
abbrev pub history_after : ℕ → Bool → ℕ
history_after history true = (2 * history + 1) % 256
history_after history false = 2 * history % 256

-- the index of the counter that the branch at that address has under that history
abbrev pub index_under : ℕ → ℕ → ℕ
index_under history address = bit_xor (index_of address) history
