-- What a text of digits looks like at first sight.
use Rattle.std.specs.Prelude.{◌≡◌, ℕ, ◌<◌, ◌≤◌, List, length, slice_index}

-- from one to ten bytes, and no leading zero but in 0 itself
abbrev pub Shaped : List ℕ → Type 0
Shaped bs = (0 < length bs) × (length bs ≤ 10) × (slice_index bs 0 ≡ 48 → length bs ≡ 1)
