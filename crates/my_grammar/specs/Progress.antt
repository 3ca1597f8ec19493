-- What the program that cuts bytes finds, beside the exchanges that the definitions say.
use Rattle.std.specs.Prelude.{◌≡◌, ℕ, List, [], ◌∷◌, reverse}
use Rattle.my_frame.specs.Front.{Front, Waiting, Broken, Whole}
use Rattle.my_grammar.specs.declared.login.Login.{Login}
use Rattle.my_grammar.specs.declared.progress.Opening.{Opening}
use Rattle.my_grammar.specs.declared.progress.Opening.TheVariants as openings
use Rattle.my_grammar.specs.declared.progress.Progress.{Progress}
use Rattle.my_grammar.specs.declared.cut.CutRest.{CutRest}
use Rattle.my_grammar.specs.declared.cut.CutRest.TheVariants as rests
use Rattle.my_grammar.specs.declared.cut.Found.{Found}
use Rattle.my_grammar.specs.Sets.{ByText, ByStatement, NoSets}
use Rattle.my_grammar.specs.Prepares.{Unanswered}
use Rattle.my_grammar.specs.Talk.{Talk, Start, Asked, Changing, Queried, Preparing, Silent, turns, number_of, client_bytes, packets_of, context_of, described, secret_in}
use Rattle.my_grammar.specs.Cut.{Read, Rest, Trailing, Unfinished, Unfit, Blamed, Cut}

-- the exchange that begins so
abbrev pub talk_of : Login → Opening → Talk
talk_of login openings.Connect = Start login
talk_of login (openings.Simple terms command) = Asked terms command
talk_of login (openings.Change terms secret stand command) = Changing terms secret stand command []
talk_of login (openings.Query terms command) = Queried terms command (NoSets ByText)
talk_of login (openings.Execute terms ahead command) = Queried terms command (NoSets (ByStatement ahead []))
talk_of login (openings.Prepare terms command) = Preparing terms command Unanswered
talk_of login (openings.Silent terms command) = Silent terms command

-- The program is where the exchange is, with its payloads in order and what the client sent.
pub record IsAt (t : Talk) (p : Progress) : Type 0 where
  pub context : p.context ≡ context_of t
  pub columns : p.columns.items ≡ described t
  pub number : p.number ≡ number_of (turns t)
  pub packets : p.packets.items ≡ reverse (packets_of t)
  pub sent : p.sent ≡ client_bytes (turns t)
  pub secret : p.secret ≡ secret_in t

-- each is where its exchange is
abbrev pub AreAt : List Talk → List Progress → Type 0
AreAt [] [] = Unit {0}
AreAt [] (p ∷ ps) = ⊥
AreAt (t ∷ ts) [] = ⊥
AreAt (t ∷ ts) (p ∷ ps) = IsAt t p × AreAt ts ps

-- which rest it is
abbrev pub rest_kind : Rest → CutRest
rest_kind (Trailing bytes) = rests.Trailing
rest_kind (Unfinished bytes) = rests.Unfinished
rest_kind (Unfit payload bytes) = rests.Unfit
rest_kind (Blamed fault bytes) = rests.Blamed fault

-- which rest begins with what cannot be read
abbrev pub front_rest : Front → CutRest
front_rest Waiting = rests.Unfinished
front_rest (Broken fault) = rests.Blamed fault
front_rest (Whole p rest next) = rests.Unfit

-- The program read the exchange up to this rest.
pub record IsReadTo (r : Read) (p : Progress) (rest : List ℕ) : Type 0 where
  pub at : IsAt r.talk p
  pub rest_is : rest ≡ r.rest

-- The program found the exchanges and the rest of this cut.
pub record IsFound (c : Cut) (found : Found) : Type 0 where
  pub exchanges : AreAt c.talks found.exchanges.items
  pub rest : found.rest ≡ rest_kind c.rest
