use Rattle.result_laws.proofs.ClosingReads as law
use Rattle.result_laws.proofs.calls_close.Goals as goal

pub returns-clause-next : goal.returns-clause-next
returns-clause-next g c = law.next_closes _

pub returns-clause-drop : goal.returns-clause-drop
returns-clause-drop g c = law.drop_closes _

pub returns-clause-stream : goal.returns-clause-stream
returns-clause-stream g c = law.stream_closes _
