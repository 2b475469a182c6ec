-- Powers of two against a side's length.
use Rattle.std.specs.Prelude.{ℕ, ◌^◌, nat_le}
use Rattle.std.specs.Option.{unwrap_or}
use Rattle.scan.specs.Live.{first_live}

-- the least e with 2 ^ e at least n, for an n of at most 32 bits
unfoldable pub log_up : ℕ → ℕ
log_up n = unwrap_or (first_live (λ e. nat_le n (2 ^ e)) 0 33) 33
