-- What of a link's plan may still be met, from use to use.
use Rattle.std.specs.Prelude.{ℕ, ◌≡◌, ◌≢◌, ◌≤◌, ◌⊎◌, ◌-◌, ◌==◌, suc, List, [], ◌∷◌, length, true, if◌then◌else◌}
use Rattle.my_link.specs.declared.met.Met.{Met}
use Rattle.my_script.specs.declared.transcript.Use.{Use}
use Rattle.my_run_judge.specs.declared.plan.left.Left.{Left}
use Rattle.my_run_judge.specs.Plan.Planned.{PlanSeen}

-- how many bytes of the first are those of the second, from the beginning on
abbrev pub alike : List ℕ → List ℕ → ℕ
alike [] bytes = 0
alike (b ∷ taken) [] = 0
alike (b ∷ taken) (c ∷ bytes) = if b == c then suc (alike taken bytes) else 0

-- before the first line, of a link whose tape has these bytes
abbrev pub first_left : PlanSeen → List ℕ → Left
first_left p taken = record {
  faults = p.faults;
  bytes = alike taken p.bytes;
  until_end = length p.bytes;
  ends = p.ends;
  others = length taken - alike taken p.bytes;
}

-- an end is met where the plan has one, and all bytes before it were taken
abbrev pub EndPlanned : Left → Met → Type 0
EndPlanned left m = (m.ends ≡ 0) ⊎ ((left.ends ≡ true) × (m.taken ≡ left.until_end))

-- what a poll met is planned: no more faults than are left, the plan's own bytes, and an end only there
pub record IsPlanned (left : Left) (m : Met) : Type 0 where
  pub faults : m.faults ≤ left.faults
  pub bytes : m.taken ≤ left.bytes
  pub end : EndPlanned left m

abbrev pub after_met : Left → Met → Left
after_met left m = record {
  faults = left.faults - m.faults;
  bytes = left.bytes - m.taken;
  until_end = left.until_end - m.taken;
  ends = left.ends;
  others = left.others;
}

-- a use of link n is planned; one of another link is none of its plan's
abbrev pub IsKept : ℕ → Left → Use → Type 0
IsKept n left u = (u.number ≢ n) ⊎ IsPlanned left u.met

abbrev pub after_use : ℕ → Left → Use → Left
after_use n left u = if u.number == n then after_met left u.met else left

-- the uses of a line
abbrev pub AreKept : ℕ → Left → List Use → Type 0
AreKept n left [] = Unit {0}
AreKept n left (u ∷ us) = IsKept n left u × AreKept n (after_use n left u) us

abbrev pub after_uses : ℕ → Left → List Use → Left
after_uses n left [] = left
after_uses n left (u ∷ us) = after_uses n (after_use n left u) us
