-- The rules of an aspect, in the groups in which the code goes through them. Assumes nothing.
use mathlib.Core.Path.{◌≡◌, refl, sym, ap, ◌∙◌}
use mathlib.Core.Bool.{Bool, ◌&&◌, and-true, and_assoc}
use mathlib.Core.List.{List, [], ◌∷◌, map}
use Prim.Native.Nat.{ℕ, zero, suc, ◌+◌, ◌*◌, ◌≤◌}
use native.Mathlib.Omega.{arith}
use lib.ListN.{length, take, drop}
use Rattle.words.specs.Lists.{all_of}
use Rattle.words.proofs.Tables.{table_at}
use Rattle.net.specs.Records.{aspect_width, no_aspect, read_aspect}
use Rattle.net.specs.Net.{aspect_at}
use Rattle.net.specs.Image.{aspects_in}
use Rattle.net.specs.declared.Node.{Node}
use Rattle.net.specs.declared.Aspect.{Aspect}
use Rattle.rulebook.specs.Parts.{owners_in, owner_ok}
use Rattle.rulebook.specs.Rulebook.{aspect_rules, aspect_ok}
use Rattle.rulebook.specs.Steps.{head_ok, cut_ok, names_ok}
use Rattle.rulebook.proofs.Chains.{Tried, tried}
use Rattle.rulebook.proofs.Owners.{owners_of}

pub aspect_is : (s : List ℕ) (k : ℕ) → 32 * k + 32 ≤ length s → aspect_at (aspects_in s) k ≡ read_aspect s (32 * k)
aspect_is s k h = table_at read_aspect aspect_width s k no_aspect (omega arith)

pub aspect_owners : (s : List ℕ) → map (λ x. x.owner) (aspects_in s) ≡ owners_in 32 s
unfolding read_aspect
aspect_owners s = owners_of (λ x. x.owner) read_aspect 32 s (λ i. refl)

-- ---- the rules in groups: so many in each, and the rest in the last
abbrev parcels : List ℕ → List Bool → List Bool
parcels [] l = all_of l ∷ []
parcels (n ∷ ns) l = all_of (take n l) ∷ parcels ns (drop n l)

all_first : (b : Bool) (l : List Bool) → all_of (b ∷ l) ≡ (b && all_of l)
all_first b [] = sym (and-true b)
all_first b (c ∷ l) = refl

all_split : (n : ℕ) (l : List Bool) → (all_of (take n l) && all_of (drop n l)) ≡ all_of l
all_split zero l = refl
all_split (suc n) [] = refl
all_split (suc n) (b ∷ l) =
    rw (all_first b (take n l)) (and_assoc b (all_of (take n l)) (all_of (drop n l)) ∙ rw (all_split n l) (sym (all_first b l)))

in_parcels : (ns : List ℕ) (l : List Bool) → all_of (parcels ns l) ≡ all_of l
in_parcels [] l = refl
in_parcels (n ∷ ns) l =
    all_first (all_of (take n l)) (parcels ns (drop n l)) ∙ rw (in_parcels ns (drop n l)) (all_split n l)

-- an aspect's: its owner, its head, its cut, the nodes that it names
abbrev pub groups : ℕ → List ℕ → ℕ → List Node → Aspect → List Bool
groups sites owners k nodes x = owner_ok sites owners k ∷ head_ok x ∷ cut_ok x ∷ names_ok nodes x ∷ []

pub aspect_tried : (sites : ℕ) (nodes : List Node) (s : List ℕ) (k : ℕ) (x : Aspect) {r : Bool} → 32 * k + 32 ≤ length s → x ≡ read_aspect s (32 * k)
    → Tried r (groups sites (owners_in 32 s) k nodes x) → r ≡ aspect_ok sites nodes (aspects_in s) k
unfolding aspect_ok cut_ok
aspect_tried sites nodes s k x h e t =
    let l : List Aspect = aspects_in s in
    tried (groups sites (owners_in 32 s) k nodes x) t
    ∙ ap (λ (o : List ℕ). all_of (groups sites o k nodes x)) (sym (aspect_owners s))
    ∙ in_parcels (1 ∷ 3 ∷ 4 ∷ []) (aspect_rules sites nodes l k x)
    ∙ ap (λ (y : Aspect). all_of (aspect_rules sites nodes l k y)) (e ∙ sym (aspect_is s k h))
