-- The cleaning of a call: what is left is read, and a transaction that was given up is rolled back, while a property of places holds.
use Rattle.std.proofs.Common.{◌≡◌, ℕ, Bool, true, false, List, ◌∷◌, refl}
use Rattle.my_reply.specs.declared.err.ErrPacket.{ErrPacket}
use Rattle.my_grammar.specs.declared.login.Login.{Login}
use Rattle.my_grammar.specs.declared.spot.Kind.{Kind}
use Rattle.my_grammar.specs.declared.spot.Kind.TheVariants as kinds
use Rattle.my_grammar.specs.declared.spot.Terms.{Terms}
use Rattle.my_grammar.specs.Cut.{is_over}
use Rattle.my_grammar.specs.Growth.{grow}
use Rattle.my_reading.specs.declared.call.Call.{Call}
use Rattle.my_reading.specs.declared.transaction.TxStatus.{TxStatus}
use Rattle.my_reading.specs.Commands.{queried}
use Rattle.my_reading.specs.Course.{Part, All, Undo, Undone, Step, Goes, refused_at, step_of, undone}
use Rattle.my_reading.specs.Errors.{server_error}
use Rattle.my_reading.specs.Place.{Place, exchanges, terms_of, with_exchange, with_status, with_talk, without_end}
use Rattle.my_reading.specs.Transactions.{is_given_up, rollback_text, rolled_back}
use Rattle.reading_laws.proofs.Having.{StopsHave, begun_has, either, awaited_have}

-- What is left of a call's cleaning, before these parts.
pub data Cleans (parts : List Part) : List Part → Type 0 where
  Reads : Cleans parts (All ∷ Undo ∷ All ∷ Undone ∷ parts)
  Undoes : Cleans parts (Undo ∷ All ∷ Undone ∷ parts)
  Awaits : Cleans parts (All ∷ Undone ∷ parts)
  Settles : Cleans parts (Undone ∷ parts)

-- Each step of it has a property, where the steps that go on in it do, and so does what follows.
module _ (login : Login) (call : Call) (parts : List Part) (H : Place → Type 0) (R : Step → Type 0)
    (stops : (p : Place) → H p → StopsHave R p)
    (during : (more : List Part) (p : Place) → Cleans parts more → H p → R (Goes more p))
    (after : (p : Place) → H p → R (Goes parts p))
    (grown : (p : Place) (k : Kind) (q rest : List ℕ) → is_over p.talk ≡ false → H p → H (with_talk p (grow k p.talk q) rest))
    (refused : (p : Place) (q rest : List ℕ) (e : ErrPacket) → is_over p.talk ≡ false → H p → R (refused_at p.trial (with_talk p (grow kinds.Failed p.talk q) rest) (server_error e)))
    (ended : (p : Place) → H p → H (without_end p))
    (opened : (p : Place) (terms : Terms) → H p → H (with_exchange p call (queried terms rollback_text)))
    (settled : (p : Place) (status : TxStatus) → H p → H (with_status status p)) where
  all_has : (more : List Part) (p : Place) → Cleans parts (All ∷ more) → ((q : Place) → H q → R (Goes more q)) → H p → R (step_of login call (All ∷ more) p)
  all_has more p here next w = either R p.end_left _ _ (during (All ∷ more) (without_end p) here (ended p w))
      (either R (is_over p.talk) _ _ (next p w) (awaited_have R p (stops p w) login All more refl
      (λ k q rest c. during (All ∷ more) (with_talk p (grow k p.talk q) rest) here (grown p k q rest c.awaited w))
      (λ k q rest row c. during (All ∷ more) (with_talk p (grow k p.talk q) rest) here (grown p k q rest c.awaited w))
      (λ q rest e awaited. refused p q rest e awaited w)))

  undo_has : (p : Place) (b : Bool) → H p → R (undone login call (All ∷ Undone ∷ parts) p b)
  undo_has p false w = during (All ∷ Undone ∷ parts) p Awaits w
  undo_has p true w =
      let terms = terms_of login (exchanges p) in
      begun_has R p (stops p w) call (All ∷ Undone ∷ parts) (queried terms rollback_text)
      (during (All ∷ Undone ∷ parts) (with_exchange p call (queried terms rollback_text)) Awaits (opened p terms w))

  pub cleans_have : (more : List Part) (p : Place) → Cleans parts more → H p → R (step_of login call more p)
  cleans_have more p Reads w = all_has (Undo ∷ All ∷ Undone ∷ parts) p Reads (λ q v. during (Undo ∷ All ∷ Undone ∷ parts) q Undoes v) w
  cleans_have more p Undoes w = undo_has p (is_given_up p.status) w
  cleans_have more p Awaits w = all_has (Undone ∷ parts) p Awaits (λ q v. during (Undone ∷ parts) q Settles v) w
  cleans_have more p Settles w = after (with_status (rolled_back p.status) p) (settled p (rolled_back p.status) w)
