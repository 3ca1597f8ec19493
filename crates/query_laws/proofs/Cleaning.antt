-- The parts with which a call begins: the rest of the newest exchange is read, and a transaction that was given up is rolled back.
use Rattle.std.proofs.Common.{◌≡◌, ℕ, List, [], ◌∷◌, Bool, true, false, refl}
use Rattle.my_grammar.specs.declared.login.Login.{Login}
use Rattle.my_grammar.specs.Cut.{is_over}
use Rattle.my_reading.specs.declared.call.Call.{Call}
use Rattle.my_reading.specs.declared.error.Error.{Error}
use Rattle.my_reading.specs.Commands.{queried}
use Rattle.my_reading.specs.Course.{Part, All, Undo, Undone, step_of, undone}
use Rattle.my_reading.specs.Place.{Place, exchanges, terms_of, with_exchange, with_status, without_end}
use Rattle.my_reading.specs.Told.{Told, ToldError}
use Rattle.my_reading.specs.Transactions.{is_given_up, rollback_text, rolled_back}
use Rattle.history_laws.proofs.Having.{begun_has, either}
use Rattle.query_laws.proofs.Running.{IsFine, Owns, reads_fine}

-- what is left of them before these parts
pub data Cleaning (rest : List Part) : List Part → Type 0 where
  Cleans : Cleaning rest (All ∷ Undo ∷ All ∷ Undone ∷ rest)
  Undoes : Cleaning rest (Undo ∷ All ∷ Undone ∷ rest)
  Reads : Cleaning rest (All ∷ Undone ∷ rest)
  Settles : Cleaning rest (Undone ∷ rest)

module _ (login : Login) (c : Call) (Own : List Part → Place → Type 0) (Q : Place → Told → Type 0) (fails : (q : Place) (e : Error) → Q q (ToldError e)) where
  -- the rest of the newest exchange is read
  all_fine : (parts : List Part) (p : Place) → ((q : Place) → Own (All ∷ parts) q) → ((q : Place) → Own parts q) → IsFine Own Q (step_of login c (All ∷ parts) p)
  all_fine parts p again next = either (IsFine Own Q) p.end_left _ _ (λ _. Owns _ _ (again _))
      (λ _. either (IsFine Own Q) (is_over p.talk) _ _ (λ _. Owns _ _ (next _))
      (λ _. reads_fine login c Own Q fails p All parts refl (λ k quiet calm q rest come. Owns _ _ (again _)) (λ k calm q rest come. Owns _ _ (again _))))

  undone_fine : (parts : List Part) (p : Place) (b : Bool) → ((q : Place) → Own parts q) → IsFine Own Q (undone login c parts p b)
  undone_fine parts p true next = begun_has (IsFine Own Q) p (λ x _. fails _ _) c parts (queried (terms_of login (exchanges p)) rollback_text) (Owns _ _ (next _))
  undone_fine parts p false next = Owns _ _ (next _)

  pub clean_fine : (rest : List Part) → ((parts : List Part) (p : Place) → Cleaning rest parts → Own parts p) → ((p : Place) → Own rest p) → (parts : List Part) (p : Place) → Cleaning rest parts → IsFine Own Q (step_of login c parts p)
  clean_fine rest goes next parts p Cleans = all_fine (Undo ∷ All ∷ Undone ∷ rest) p (λ q. goes _ q Cleans) (λ q. goes _ q Undoes)
  clean_fine rest goes next parts p Undoes = undone_fine (All ∷ Undone ∷ rest) p (is_given_up p.status) (λ q. goes _ q Reads)
  clean_fine rest goes next parts p Reads = all_fine (Undone ∷ rest) p (λ q. goes _ q Reads) (λ q. goes _ q Settles)
  clean_fine rest goes next parts p Settles = Owns rest (with_status (rolled_back p.status) p) (next _)
