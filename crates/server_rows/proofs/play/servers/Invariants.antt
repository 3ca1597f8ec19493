use denote.Text.{Utf8}
use denote.Shadow.{shadow}
use Rattle.server_rows.proofs.play.servers.Given as goal

abbrev pub invariant-loop-row : goal.invariant-loop-row
invariant-loop-row g l =
    (goal.iterator-loop-row g).can_next l.row-iterator ×
    (goal.iterator-loop-row g).is_finite l.row-iterator ×
    shadow (Utf8 l.script)
