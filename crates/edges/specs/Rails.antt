-- The smallest domain with a piece to halve: two points, three pieces.
use Rattle.std.specs.Prelude.{ℕ, Bool, true, false, List, [], ◌∷◌, Some, None, count_by, Option, ◌==◌, nat_le, nat_lt}
use Rattle.scan.specs.declared.stretch.Stretch.{Stretch}
use Rattle.domain.specs.Maps.{Maps}
use Rattle.edges.specs.declared.rail.Rail.{Rail}
use Rattle.edges.specs.declared.rail.Rail.TheVariants.{Port, Starboard, Both}

abbrev pub holds : Rail → ℕ → Bool
holds Port n = n == 0
holds Starboard n = n == 1
holds Both n = nat_lt n 2

abbrev pub count : Rail → ℕ
count Port = 1
count Starboard = 1
count Both = 2

abbrev pub number : Rail → ℕ
number Port = 0
number Starboard = 1
number Both = 2

abbrev pub numbered : ℕ → Option Rail
numbered n = elim (n == 0) [ true ↦ Some Port | false ↦ elim (n == 1) [ true ↦ Some Starboard | false ↦ elim (n == 2) [ true ↦ Some Both | false ↦ None ] ] ]

abbrev pub within : Rail → Rail → Bool
within q Both = true
within Port Port = true
within Starboard Port = false
within Both Port = false
within Port Starboard = false
within Starboard Starboard = true
within Both Starboard = false

abbrev pub halves : Rail → Rail × Rail
halves Port = (Port, Port)
halves Starboard = (Starboard, Starboard)
halves Both = (Port, Starboard)

-- the other rail, if both are there
abbrev pub strips : Rail → Rail → List Rail
strips Both Port = Starboard ∷ []
strips Both Starboard = Port ∷ []
strips Both Both = []
strips Port q = []
strips Starboard q = []

abbrev pub joined : Rail → Rail → Rail
joined Port Port = Port
joined Port Starboard = Both
joined Port Both = Both
joined Starboard Port = Both
joined Starboard Starboard = Starboard
joined Starboard Both = Both
joined Both q = Both

abbrev pub span : Rail → Option Rail → Option Rail → Option Rail
span x None o = o
span x (Some p) None = Some p
span x (Some p) (Some q) = Some (joined p q)

-- the piece of the points that pass
abbrev pub of_points : Bool → Bool → Option Rail
of_points true true = Some Both
of_points true false = Some Port
of_points false true = Some Starboard
of_points false false = None

abbrev pub deep : List Rail → ℕ → ℕ → Bool
deep ps k n = nat_le k (count_by (λ p. holds p n) ps)

abbrev pub gather : Rail → List Rail → ℕ → Option Rail
gather x ps k = of_points (deep ps k 0) (deep ps k 1)

abbrev pub height : Rail → ℕ
height Port = 0
height Starboard = 0
height Both = 1

abbrev pub rails : Maps Rail
rails = record {
  holds = holds;
  count = count;
  size = count;
  number = number;
  piece = numbered;
  within = within;
  halves = halves;
  strips = strips;
  span = span;
  gather = gather;
  height = height;
}

-- where the points of a piece begin and end; what is no piece's number has none
abbrev pub taken_up : Option Rail → Stretch
taken_up None = record { low = 1; high = 0 }
taken_up (Some Port) = record { low = 0; high = 0 }
taken_up (Some Starboard) = record { low = 1; high = 1 }
taken_up (Some Both) = record { low = 0; high = 1 }
