-- What of a link's plan was used.
use Rattle.std.specs.Prelude.{ℕ, ◌≡◌, ◌+◌, List, [], ◌∷◌, ◌++◌, Option, Some, None}
use Rattle.my_link.specs.declared.link.WriteItem.{WriteItem}
use Rattle.my_link.specs.declared.link.WriteItem.TheVariants as puts
use Rattle.my_link.specs.declared.link.ReadItem.{ReadItem}
use Rattle.my_link.specs.declared.link.ReadItem.TheVariants.{Bytes, Turn, Wait, Fail, End}
use Rattle.my_link.specs.Looks.{Looks}
use Rattle.my_link.specs.Moves.{Stop, faults_at, IsUsed}

-- the bytes that the items spell
abbrev pub spelled : List ReadItem → List ℕ
spelled [] = []
spelled (Bytes bytes ∷ more) = bytes ++ spelled more
spelled (Turn ∷ more) = spelled more
spelled (Wait ∷ more) = spelled more
spelled (Fail ∷ more) = spelled more
spelled (End ∷ more) = spelled more

-- how often a read fails
abbrev pub fails_in : List ReadItem → ℕ
fails_in [] = 0
fails_in (Bytes bytes ∷ more) = fails_in more
fails_in (Turn ∷ more) = fails_in more
fails_in (Wait ∷ more) = fails_in more
fails_in (Fail ∷ more) = 1 + fails_in more
fails_in (End ∷ more) = fails_in more

-- how often a write fails
abbrev pub write_fails_in : List WriteItem → ℕ
write_fails_in [] = 0
write_fails_in (puts.Accept n ∷ more) = write_fails_in more
write_fails_in (puts.Wait ∷ more) = write_fails_in more
write_fails_in (puts.Fail ∷ more) = 1 + write_fails_in more

-- What is left of planned items is their end, whole or with its first item read in part.
pub data IsLeft (plan left : List ReadItem) : Type 0 where
  Whole : (used : List ReadItem) → plan ≡ used ++ left → IsLeft plan left
  Part : (used more : List ReadItem) (read rest : List ℕ) → plan ≡ used ++ Bytes (read ++ rest) ∷ more
      → left ≡ Bytes rest ∷ more → IsLeft plan left

-- Of the planned items these are left to be read, after these bytes were received.
pub record Spent (plan left : List ReadItem) (received : List ℕ) : Type 0 where
  pub left_is : IsLeft plan left
  pub bytes : spelled plan ≡ received ++ spelled left

-- where a plan for reads is told
abbrev pub ReadsSpent : Option (List ReadItem) → Option (List ReadItem) → List ℕ → Type 0
ReadsSpent None left received = Unit {0}
ReadsSpent (Some plan) None received = ⊥
ReadsSpent (Some plan) (Some left) received = Spent plan left received

-- where plans for reads and for writes are told, `faults` planned faults were used, and the others are left
abbrev pub FaultsSpent : Option (List ReadItem) → Option (List ReadItem) → Option (List WriteItem)
    → Option (List WriteItem) → ℕ → Type 0
FaultsSpent None left rules rest faults = Unit {0}
FaultsSpent (Some plan) left None rest faults = Unit {0}
FaultsSpent (Some plan) None (Some rules) rest faults = ⊥
FaultsSpent (Some plan) (Some left) (Some rules) None faults = ⊥
FaultsSpent (Some plan) (Some left) (Some rules) (Some rest) faults =
    fails_in plan + write_fails_in rules ≡ faults + (fails_in left + write_fails_in rest)

-- these are the bytes that the link was sent, where it tells them
abbrev pub HasGot : Option (List ℕ) → List ℕ → Type 0
HasGot None sent = Unit {0}
HasGot (Some got) sent = got ≡ sent

-- The link of this plan for reads and for writes was sent `sent`, gave `received` and failed `faults` times.
pub record IsSpent (plan : Option (List ReadItem)) (rules : Option (List WriteItem)) (x : Looks)
    (sent received : List ℕ) (faults : ℕ) : Type 0 where
  pub got : HasGot x.got sent
  pub reads : ReadsSpent plan x.items received
  pub failed : FaultsSpent plan x.items rules x.writes faults

-- so it stays with each use of the link
abbrev pub UsesSpend : Type 0
UsesSpend = (plan : Option (List ReadItem)) (rules : Option (List WriteItem)) (x y : Looks)
    (sent received out came : List ℕ) (stop : Stop) (faults : ℕ) → IsUsed x y out came stop
    → IsSpent plan rules x sent received faults
    → IsSpent plan rules y (sent ++ out) (received ++ came) (faults + faults_at stop)
