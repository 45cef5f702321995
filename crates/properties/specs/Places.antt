-- The places that a tick call tests, what each asks, and their order (RULES, "Properties"): property by property, plants rising, then
-- indexes from the last commit up. Property 1 has three tests of each plant and no index; each other has one test of each entry newly
-- committed. Each is said in the rules' own words and not by what the code runs. Assumes nothing.
use Rattle.std.specs.Prelude.{◌⊎◌, ◌≡◌, ℕ, ◌≤◌, ◌<◌, length}
use Rattle.properties_snapshots.specs.Cluster.{Cluster, plant, entry, last}
use Rattle.properties_verdicts.specs.Verdicts.{property_number}
use Rattle.properties_agreement.specs.Agreement.{canonical_entry}
use Rattle.properties_duplicates.specs.Duplicates.{id_of}
use Rattle.properties_durability.specs.Durability.{participants, needed_copies, copies_of}
use Rattle.properties_verdicts.specs.declared.Property.{Property}
use Rattle.properties_verdicts.specs.declared.Property.TheVariants.{CommitNumber, PrefixAgreement, NoDuplicates, Durability, Convergence}

-- an entry that plant r has committed since it was last verified
abbrev pub Newly : Cluster → (r i : ℕ) → Type 0
Newly c r i = (r < c.size) × (last c r ≤ i) × (i < (plant c r).commit)

-- the places: which there are
abbrev pub Asked : Cluster → Property → (r i t : ℕ) → Type 0
Asked c CommitNumber r i t = (r < c.size) × (i ≡ 0) × (1 ≤ t) × (t ≤ 3)
Asked c PrefixAgreement r i t = Newly c r i × (t ≡ 1)
Asked c NoDuplicates r i t = Newly c r i × (t ≡ 1)
Asked c Durability r i t = Newly c r i × (t ≡ 1)
Asked c Convergence r i t = ⊥

-- the three tests of property 1, by their numbers
abbrev pub CommitTest : Cluster → (r t : ℕ) → Type 0
CommitTest c r t =
    (t ≡ 1 → (plant c r).op ≡ length (plant c r).log)
    × (t ≡ 2 → (plant c r).commit ≤ (plant c r).op)
    × (t ≡ 3 → last c r ≤ (plant c r).commit)

-- what a place asks
abbrev pub Holds : Cluster → Property → (r i t : ℕ) → Type 0
Holds c CommitNumber r i t = CommitTest c r t
Holds c PrefixAgreement r i t = canonical_entry c i ≡ entry c r i
Holds c NoDuplicates r i t = (j : ℕ) → j < i → id_of c r j ≡ (entry c r i).id → ⊥
Holds c Durability r i t = needed_copies c.size (participants c) ≤ copies_of c r i
Holds c Convergence r i t = ⊥

-- one place before another: by property, then by plant, index and test
pub record Place : Type 0 where
  pub property : Property
  pub plant : ℕ
  pub index : ℕ
  pub test : ℕ

abbrev pub Before : Place → Place → Type 0
Before a b =
    (property_number a.property < property_number b.property)
    ⊎ ((a.property ≡ b.property)
    × ((a.plant < b.plant)
    ⊎ ((a.plant ≡ b.plant) × ((a.index < b.index) ⊎ ((a.index ≡ b.index) × (a.test < b.test))))))

abbrev pub AskedAt : Cluster → Place → Type 0
AskedAt c a = Asked c a.property a.plant a.index a.test

abbrev pub HoldsAt : Cluster → Place → Type 0
HoldsAt c a = Holds c a.property a.plant a.index a.test

-- the first broken place: it is asked and fails, and every place before it holds
pub record First (c : Cluster) (a : Place) : Type 0 where
  pub asked : AskedAt c a
  pub fails : HoldsAt c a → ⊥
  pub before : (b : Place) → AskedAt c b → Before b a → HoldsAt c b

-- the same of one property alone
pub record FirstOf (p : Property) (c : Cluster) (a : Place) : Type 0 where
  pub of : a.property ≡ p
  pub asked : AskedAt c a
  pub fails : HoldsAt c a → ⊥
  pub before : (b : Place) → b.property ≡ p → AskedAt c b → Before b a → HoldsAt c b
