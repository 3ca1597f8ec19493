-- A commit that was done, from call to bytes.
use Rattle.std.proofs.Common.{◌≡◌, None, Result, Ok, refl, subst}
use Rattle.my_grammar.specs.declared.login.Login.{Login}
use Rattle.my_link.specs.Looks.{Looks}
use Rattle.my_reading.specs.declared.call.Call.TheVariants as calls
use Rattle.my_reading.specs.declared.call.CallKind.TheVariants as kinds
use Rattle.my_reading.specs.Place.{Place}
use Rattle.my_reading.specs.Told.{told}
use Rattle.my_conn.specs.Answers.{done_of}
use Rattle.my_conn.specs.Conn.{ConnSeen}
use Rattle.my_conn.specs.Drives.{DoneIs}
use Rattle.query_laws.specs.Commits.{CommitIsAnswered}
use Rattle.query_laws.proofs.Committing.{Commits, IsCommitted, commit_leaves}
use Rattle.query_laws.proofs.Finding.{commit_found}
use Rattle.query_laws.proofs.Since.{Went, did, first_step, ready_told, waits}

module _ {L : Type 0} (look : L → Looks) where
  commit_goes : (old new : ConnSeen L) → old.pending ≡ None → DoneIs look kinds.Commit calls.Commit old new (Ok tt) → Went (λ login p. IsCommitted p) old new
  commit_goes old new idle d =
      let w = waits look done_of tt kinds.Commit calls.Commit old new idle refl refl refl d in
      let is = ready_told kinds.Commit (record { reads_none = refl; lacks_none = refl; prepares_none = refl; resets_none = refl }) w.answer w.fits in
      first_step calls.Commit w.answer (λ login p. Unit {0}) (λ login p. IsCommitted p) old new w.step (λ login p q e. subst (Commits q) is (commit_leaves login p q (told w.answer) e))

  pub commit_is_answered : CommitIsAnswered look
  commit_is_answered old new idle d = did (λ login p. IsCommitted p) _ old new (commit_goes old new idle d) (λ login k tape bytes at. commit_found login k tape bytes at)
