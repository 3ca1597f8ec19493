-- An exchange that is hushed keeps to the terms that hold there: it began by the command table.
use Rattle.std.proofs.Common.{◌≡◌, ℕ, List, [], ◌∷◌, Bool, sym, ap, ◌∙◌, subst}
use Rattle.my_grammar.specs.declared.login.Login.{Login}
use Rattle.my_grammar.specs.declared.spot.Terms.{Terms}
use Rattle.my_grammar.specs.Talk.{Talk, Queried, origin}
use Rattle.my_reading.specs.declared.call.Call.{Call}
use Rattle.my_reading.specs.declared.call.Call.TheVariants.{Commit}
use Rattle.my_reading.specs.Commands.{queried}
use Rattle.my_reading.specs.Place.{Exchange, connects_in, terms_of}
use Rattle.my_reading.specs.Transactions.{rollback_text}
use Rattle.history_laws.specs.Errors.{AreHushed, AreHushedBy}
use Rattle.history_laws.specs.Table.{Follow, Opens, Opening, Closing, Running, Asking, Renewing, Undoing}

-- the terms of a query; for others the default any
abbrev terms_in : Terms → Talk → Terms
terms_in any (Queried terms c sets) = terms
terms_in any t = any

commit_opens : (login : Login) (terms other : Terms) (c : Call) (n : ℕ) (t : Talk) → c ≡ Commit → Opens login terms c n t → t ≡ queried other rollback_text → t ≡ queried terms rollback_text
commit_opens login terms other c n t is o rolls = by_way (subst (λ (d : Call). Opens login terms d n t) is o)
  where
    by_way : Opens login terms Commit n t → t ≡ queried terms rollback_text
    by_way (Opening st e) = cc
    by_way (Closing id k e) = absurd (cc)
    by_way (Running w) = absurd (let no = w.kind in cc)
    by_way (Asking w) = let same : terms ≡ other = ap (terms_in other) (w.queries ∙ rolls) in rolls ∙ ap (λ ts. queried ts rollback_text) (sym same)
    by_way (Renewing w) = absurd (let no = w.kind in cc)
    by_way (Undoing w) = sym w.queries

pub hushed_by : (login : Login) (bs : List Bool) (es : List Exchange) → AreHushed bs es → Follow login es → AreHushedBy login bs es
hushed_by login [] [] w table = tt
hushed_by login [] (e ∷ es) w table = absurd w
hushed_by login (b ∷ bs) [] w table = absurd w
hushed_by login (b ∷ bs) (e ∷ es) w table = (
  λ h. let x = w.0 h in record { commits = x.1.commits; rolls_back = commit_opens login (terms_of login es) x.0 e.call (connects_in es) (origin e.talk) x.1.commits table.0 x.1.rolls_back; first = x.1.first; after = x.1.after },
  hushed_by login bs es w.1 table.1,
)
