-- What a link that is always ready makes of the link that it holds.
use Rattle.std.specs.Prelude.{ℕ, ◌⊎◌, List, None}
use Rattle.my_link.specs.declared.blocking.ReadyLink.{ReadyLink}
use Rattle.my_link.specs.declared.link.CheckStep.{CheckStep}
use Rattle.my_link.specs.declared.link.CheckStep.TheVariants as checks
use Rattle.my_link.specs.declared.link.ReadStep.{ReadStep}
use Rattle.my_link.specs.declared.link.ReadStep.TheVariants as reads
use Rattle.my_link.specs.declared.link.WriteStep.{WriteStep}
use Rattle.my_link.specs.declared.link.WriteStep.TheVariants as writes
use Rattle.my_link.specs.Check.{CheckIs}
use Rattle.my_link.specs.Looks.{Looks}
use Rattle.my_link.specs.Moves.{ReadIs, WriteIs}

-- it tells nothing of the other link's items
abbrev pub ready_looks : {K : Type 0} → (K → Looks) → ReadyLink K → Looks
ready_looks looks l = record {
  items = None;
  writes = None;
  got = None;
  counts = record {
    faults = l.faults;
    holds = 0;
    ends = (looks l.inner).counts.ends;
    deaths = (looks l.inner).counts.deaths;
  };
}

-- what a read that returns this did to the other link: where that one wasn't ready, this one fails
abbrev pub ReadyRead : Looks → List ℕ → Looks → ReadStep → Type 0
ReadyRead x buf y (reads.Got n) = ReadIs x buf y (reads.Got n)
ReadyRead x buf y reads.NotYet = ⊥
ReadyRead x buf y reads.End = ReadIs x buf y reads.End
ReadyRead x buf y reads.Failed = ReadIs x buf y reads.NotYet ⊎ ReadIs x buf y reads.Failed

-- what a write that returns this did to it
abbrev pub ReadyWrite : Looks → List ℕ → Looks → WriteStep → Type 0
ReadyWrite x bytes y (writes.Took n) = WriteIs x bytes y (writes.Took n)
ReadyWrite x bytes y writes.NotYet = ⊥
ReadyWrite x bytes y writes.Failed = WriteIs x bytes y writes.NotYet ⊎ WriteIs x bytes y writes.Failed
ReadyWrite x bytes y writes.NoMemory = WriteIs x bytes y writes.NoMemory

-- what a check that returns this did to it
abbrev pub ReadyCheck : Looks → Looks → CheckStep → Type 0
ReadyCheck x y checks.Alive = CheckIs x y checks.Alive
ReadyCheck x y checks.Dead = CheckIs x y checks.Dead
ReadyCheck x y checks.NotYet = ⊥
ReadyCheck x y checks.Failed = CheckIs x y checks.NotYet ⊎ CheckIs x y checks.Failed
