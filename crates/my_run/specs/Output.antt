-- What was written to a sink.
use Rattle.std.specs.Prelude.{ℕ, ◌≡◌, List, ◌++◌, Bool, true, false}
use Rattle.my_frame.specs.Outside.{Rose, Comes}
use Rattle.my_frame.specs.Sinks.{SinkSeen}

-- all bytes went out
pub record WroteAll (before : SinkSeen) (bytes : List ℕ) (now : SinkSeen) : Type 0 where
  pub came : Comes before.took bytes now.took
  pub no_fault : now.faults ≡ before.faults

-- a beginning of the bytes went out, and then the sink failed
pub record WrotePart (before : SinkSeen) (bytes : List ℕ) (now : SinkSeen) : Type 0 where
  pub front : List ℕ
  pub rest : List ℕ
  pub cut : front ++ rest ≡ bytes
  pub came : Comes before.took front now.took
  pub fault : Rose before.faults now.faults

abbrev pub Wrote : SinkSeen → List ℕ → SinkSeen → Bool → Type 0
Wrote before bytes now true = WroteAll before bytes now
Wrote before bytes now false = WrotePart before bytes now
