-- The dial: 3,600 points in a ring, the arcs on it, and its maps.
use Rattle.std.specs.Prelude.{ℕ, suc, ◌+◌, ◌-◌, ◌*◌, ◌/◌, ◌%◌, ◌<◌, ◌≤◌, min, max, Bool, ◌&&◌, List, ◌++◌, Some, None, count_by, Option, nat_le, nat_lt}
use Rattle.std.proofs.Math.Decide.{dec_le, dec_lt}
use Rattle.std.specs.Option.{unwrap_or, option_to_list}
use Rattle.scan.specs.Live.{run}
use Rattle.scan.specs.Powers.{log_up}
use Rattle.scan.specs.declared.stretch.Stretch.{Stretch}
use Rattle.domain.specs.Maps.{Maps}
use Rattle.dial.specs.declared.arc.Arc.{Arc}

-- s is a point, and n from 1 to 3600
abbrev pub AreArc : ℕ → ℕ → Type 0
AreArc s n = (s < 3600) × (0 < n) × (n ≤ 3600)

-- the arc of n points from s on
abbrev pub decided : (s n : ℕ) → Dec (s < 3600) → Dec (0 < n) → Dec (n ≤ 3600) → Option Arc
decided s n (yes p) (yes q) (yes r) = Some (record { start = s; len = n; placed = p; some = q; most = r })
decided s n (yes p) (yes q) (no r) = None
decided s n (yes p) (no q) r = None
decided s n (no p) q r = None

unfoldable pub arc_of : ℕ → ℕ → Option Arc
unfolding dec_le dec_lt
arc_of s n = decided s n (dec_lt s 3600) (dec_lt 0 n) (dec_le n 3600)

-- the point i places past s, going round
unfoldable pub point : ℕ → ℕ → ℕ
point s i = (s + i) % 3600

-- how far past s the point n lies, going round: (n − s) mod 3600
unfoldable pub offset : ℕ → ℕ → ℕ
offset s n = (n + (3600 - s)) % 3600

abbrev pub holds : Arc → ℕ → Bool
holds a n = nat_lt n 3600 && nat_lt (offset a.start n) a.len

abbrev pub within : Arc → Arc → Bool
within q p = nat_le (offset p.start q.start + q.len) p.len

-- m points of an arc, from its i-th on, counted from 0
abbrev pub part : Arc → ℕ → ℕ → Option Arc
part x i m = arc_of (point x.start i) m

-- where one arc begins and ends, in the order of another
abbrev pub begin : Arc → Arc → ℕ
begin x p = offset x.start p.start

abbrev pub end : Arc → Arc → ℕ
end x p = begin x p + p.len

abbrev pub halves : Arc → Arc × Arc
halves a = (unwrap_or (part a 0 (a.len / 2)) a, unwrap_or (part a (a.len / 2) (a.len - a.len / 2)) a)

-- the run before q, then the run after it
abbrev pub strips : Arc → Arc → List Arc
strips p q = option_to_list (part p 0 (begin p q)) ++ option_to_list (part p (end p q) (p.len - end p q))

-- from where the first begins to where the last ends
abbrev pub span : Arc → Option Arc → Option Arc → Option Arc
span x None o = o
span x (Some p) None = Some p
span x (Some p) (Some q) = part x (min (begin x p) (begin x q)) (max (end x p) (end x q) - min (begin x p) (begin x q))

-- how many of the listed arcs hold the i-th point of x
abbrev pub depth : Arc → List Arc → ℕ → ℕ
depth x ps i = count_by (λ p. holds p (point x.start i)) ps

-- at least k of them do
abbrev pub deep : Arc → List Arc → ℕ → ℕ → Bool
deep x ps k i = nat_le k (depth x ps i)

-- a stretch of an arc's points
abbrev pub along : Arc → Option Stretch → Option Arc
along x None = None
along x (Some s) = part x s.low (suc s.high - s.low)

-- from the first to the last point of x that at least k of them hold
abbrev pub gather : Arc → List Arc → ℕ → Option Arc
gather x ps k = along x (run (deep x ps k) 0 x.len)

abbrev pub number : Arc → ℕ
number a = a.start * 4096 + a.len

abbrev pub arc_numbered : ℕ → Option Arc
arc_numbered n = arc_of (n / 4096) (n % 4096)

-- the stretch of x that the arc of a number takes up; one that is no arc's takes up none
abbrev pub taken_up : Arc → Option Arc → Stretch
taken_up x None = record { low = 1; high = 0 }
taken_up x (Some p) = record { low = begin x p; high = end x p - 1 }

abbrev pub extent : Arc → ℕ → Stretch
extent x n = taken_up x (arc_numbered n)

abbrev pub dial : Maps Arc
dial = record {
  holds = holds;
  count = λ a. a.len;
  size = λ a. a.len;
  number = number;
  piece = arc_numbered;
  within = within;
  halves = halves;
  strips = strips;
  span = span;
  gather = gather;
  height = λ a. log_up a.len;
}
