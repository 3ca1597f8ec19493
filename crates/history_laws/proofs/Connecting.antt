-- Each step of connecting begins exchanges by the command table: the login, and then each query that sets the connection up.
use Rattle.std.proofs.Common.{◌≡◌, ◌⊎◌, inl, inr, ℕ, suc, zero, ◌+◌, length, List, [], ◌∷◌, Bool, true, false, not, ◌&&◌, Some, slice_get, refl, sym, ap, ◌∙◌, subst, arith}
use Rattle.my_grammar.proofs.Growth.{grows}
use Rattle.my_grammar.specs.declared.login.Login.{Login}
use Rattle.my_grammar.specs.declared.spot.Kind.{Kind}
use Rattle.my_grammar.specs.declared.spot.Kind.TheVariants as kinds
use Rattle.my_grammar.specs.declared.spot.Terms.{Terms}
use Rattle.my_grammar.specs.Cut.{is_over}
use Rattle.my_grammar.specs.Growth.{grow}
use Rattle.my_grammar.specs.Talk.{Talk, Fits, packets_of}
use Rattle.my_reply.specs.declared.err.ErrPacket.{ErrPacket}
use Rattle.my_reading.specs.declared.call.Call.{Call}
use Rattle.my_reading.specs.declared.call.Call.TheVariants.{Connect}
use Rattle.my_reading.specs.declared.call.CallKind.TheVariants as callkinds
use Rattle.my_reading.specs.declared.error.Error.{Error}
use Rattle.my_reading.specs.declared.error.Error.TheVariants.{Server}
use Rattle.my_reading.specs.declared.transaction.Trial.{Trial}
use Rattle.my_reading.specs.declared.transaction.Trial.TheVariants.{Off}
use Rattle.my_reading.specs.Commands.{arranging, arranging_texts, opening, queried}
use Rattle.my_reading.specs.Course.{Part, All, Command, Step, Goes, Stops, Stop, Owes, Awaits, Returns, parts_of, parts_of_texts, refused_at, run, step, step_of, unless_owed, with_command}
use Rattle.my_reading.specs.Errors.{server_error}
use Rattle.my_reading.specs.Place.{Exchange, Place, connects_in, exchanges, facts_of, next_exchange, owed, terms_of, with_talk}
use Rattle.my_reading.specs.Told.{Told, ToldReady, ToldError, closes_by}
use Rattle.history_laws.specs.Order.{AreDone}
use Rattle.history_laws.specs.Settled.{is_known}
use Rattle.history_laws.specs.Table.{Follow, Opens, Opening}
use Rattle.history_laws.proofs.Asking.{AreAccepted, AreConnects, all_connect, connect_known, ends_well}
use Rattle.history_laws.proofs.Blaming.{is_failed}
use Rattle.history_laws.proofs.Having.{Comes, begun_has, either, errors_have, fault_closes}
use Rattle.history_laws.proofs.Opening.{queried_new}
use Rattle.history_laws.proofs.Shaping.{connects, connects_on}
use Rattle.history_laws.proofs.Stepping.{both}

-- how many commands are left
abbrev left_in : List Part → ℕ
left_in [] = 0
left_in (Command ∷ parts) = suc (left_in parts)
left_in (part ∷ parts) = left_in parts

-- connecting has no other parts, and ends after the whole of a response
abbrev is_connecting : Bool → List Part → Bool
is_connecting over [] = over
is_connecting over (All ∷ parts) = is_connecting true parts
is_connecting over (Command ∷ parts) = over && is_connecting false parts
is_connecting over (part ∷ parts) = false

-- while the call that connects is open
pub record Joins (login : Login) (call : Call) (talk : Talk) (older : List Exchange) (trial : Trial) : Type 0 where
  pub table : Follow login (record { call = call; talk = talk } ∷ older)
  pub own : call ≡ Connect
  pub owns : AreConnects older
  pub fits : Fits talk
  pub connects_is : connects talk ≡ true
  pub off : trial ≡ Off

abbrev pub JoinsAt : Login → Place → Type 0
JoinsAt login p = Joins login p.call p.talk p.older p.trial

-- it has sent all queries, and each was answered
pub record IsJoined (login : Login) (p : Place) : Type 0 where
  pub count : connects_in (exchanges p) ≡ suc (length (arranging_texts login))
  pub over : is_over p.talk ≡ true
  pub paid : owed p ≡ []
  pub known : is_known (facts_of login (exchanges p)).settings.stage ≡ true

-- it returns that, or an error that closes the session
abbrev pub JoinsSo : Login → Place → Told → Type 0
JoinsSo login p t = ((t ≡ ToldReady) × IsJoined login p) ⊎ ((e : Error) × (t ≡ ToldError e) × (closes_by e callkinds.Connect ≡ true))

abbrev pub Stopped : Login → Place → Stop → Type 0
Stopped login p Owes = JoinsAt login p
Stopped login p Awaits = JoinsAt login p
Stopped login p (Returns t) = JoinsAt login p × JoinsSo login p t

abbrev IsFine : Login → Step → Type 0
IsFine login (Goes parts q) = (over : Bool) × JoinsAt login q × (is_connecting over parts ≡ true) × (over ≡ true → is_over q.talk ≡ true) × (length q.older + left_in parts ≡ length (arranging_texts login)) × AreDone q.older × AreAccepted (exchanges q)
IsFine login (Stops q s) = Stopped login q s

found_text : (texts : List (List ℕ)) (n k : ℕ) → n + suc k ≡ length texts → (text : List ℕ) × (slice_get texts n ≡ Some text)
found_text [] n k e = absurd (omega arith)
found_text (text ∷ texts) zero k e = (text, refl)
found_text (text ∷ texts) (suc n) k e = found_text texts n k (omega arith)

module _ (login : Login) (p : Place) (w : JoinsAt login p) (paid : owed p ≡ []) (done : AreDone p.older) (accepted : AreAccepted (exchanges p)) where
  abbrev n : ℕ
  n = length p.older

  abbrev Fine : Step → Type 0
  Fine s = IsFine login s

  grown : (k : Kind) (q rest : List ℕ) → Comes p k q → JoinsAt login (with_talk p (grow k p.talk q) rest)
  grown k q rest come =
      let g = grows p.talk k q come.kind_is come.good come.short w.fits in
      record {
        table = (subst (λ (t : Talk). Opens login (terms_of login p.older) p.call (connects_in p.older) t) (sym g.origin_is) w.table.0, w.table.1);
        own = w.own;
        owns = w.owns;
        fits = g.fits;
        connects_is = connects_on p.talk k q w.connects_is;
        off = w.off;
      }

  errs : (q rest : List ℕ) → Comes p kinds.Failed q → (e : ErrPacket) → Fine (refused_at p.trial (with_talk p (grow kinds.Failed p.talk q) rest) (server_error e))
  errs q rest come e = subst (λ (x : Trial). Fine (refused_at x (with_talk p (grow kinds.Failed p.talk q) rest) (server_error e))) (sym w.off)
      (grown kinds.Failed q rest come, inr (Server (server_error e), refl, refl))

  goes_on : (parts : List Part) → is_connecting true parts ≡ true → n + left_in parts ≡ length (arranging_texts login) → (k : Kind) → is_failed k ≡ false → (q rest : List ℕ) → Comes p k q → Fine (Goes (All ∷ parts) (with_talk p (grow k p.talk q) rest))
  goes_on parts e count k good q rest come =
      let g = grows p.talk k q come.kind_is come.good come.short w.fits in
      (false, grown k q rest come, e, λ x. absurd (cc), count, done, (ap ends_well g.packets_are ∙ ap not good, accepted.1))

  all_fine : (parts : List Part) → is_connecting true parts ≡ true → n + left_in parts ≡ length (arranging_texts login) → Fine (step_of login Connect (All ∷ parts) p)
  all_fine parts e count = either Fine p.end_left _ _
      (λ _. (false, record { table = w.table; own = w.own; owns = w.owns; fits = w.fits; connects_is = w.connects_is; off = w.off }, e, λ x. absurd (cc), count, done, accepted))
      (λ _. either Fine (is_over p.talk) _ _ (λ over. (true, w, e, λ _. over, count, done, accepted))
      (λ _. errors_have (IsFine login) p (λ x is. (w, inr (x, refl, fault_closes callkinds.Connect x is))) login All parts w (goes_on parts e count) (goes_on parts e count) (λ q rest come x is. errs q rest come x)))

  counted : connects_in (exchanges p) ≡ suc n
  counted = all_connect (exchanges p) (w.own, w.owns)

  next : (text : List ℕ) → slice_get (arranging_texts login) n ≡ Some text → next_exchange login Connect p ≡ Some (queried (terms_of login (exchanges p)) text)
  next text e = ap (λ m. opening login (terms_of login (exchanges p)) p.statements Connect m) counted ∙ ap (arranging (terms_of login (exchanges p))) e

  command_fine : (parts : List Part) → is_over p.talk ≡ true → is_connecting false parts ≡ true → n + suc (left_in parts) ≡ length (arranging_texts login) → Fine (with_command Connect parts p (next_exchange login Connect p))
  command_fine parts over e count =
      let terms : Terms = terms_of login (exchanges p) in
      let f = found_text (arranging_texts login) n (left_in parts) count in
      let t : Talk = queried terms f.0 in
      let is : next_exchange login Connect p ≡ Some t = next f.0 f.1 in
      subst (λ o. Fine (with_command Connect parts p o)) (sym is)
      (begun_has (IsFine login) p (λ x is. (w, inr (x, refl, fault_closes callkinds.Connect x is))) Connect parts t (
        false,
        record {
          table = (Opening p.statements is, w.table);
          own = refl;
          owns = (w.own, w.owns);
          fits = (queried_new terms f.0).fits;
          connects_is = refl;
          off = w.off;
        },
        e,
        λ x. absurd (cc),
        omega (arith, count),
        (over, w.fits, done),
        (refl, accepted),
      ))

  part_fine : (parts : List Part) (over : Bool) → is_connecting over parts ≡ true → (over ≡ true → is_over p.talk ≡ true) → n + left_in parts ≡ length (arranging_texts login) → Fine (step_of login Connect parts p)
  part_fine [] over e is count =
      let all : n ≡ length (arranging_texts login) = omega (arith, count) in
      (w, inl (refl, record { count = counted ∙ ap suc all; over = is e; paid = paid; known = connect_known login (exchanges p) w.table (w.own, w.owns) (is e, w.fits, done) accepted (ap suc all) }))
  part_fine (All ∷ parts) over e is count = all_fine parts e count
  part_fine (Command ∷ parts) over e is count = let x = both over (is_connecting false parts) e in command_fine parts (is x.0) x.1 count
  part_fine _ over e is count = absurd (cc)

step_fine : (login : Login) (parts : List Part) (p : Place) → IsFine login (Goes parts p) → IsFine login (step login Connect parts p)
unfolding step
step_fine login parts p g = by_owed (owed p) refl
  where
    by_owed : (x : List ℕ) → owed p ≡ x → IsFine login (unless_owed x p (step_of login Connect parts p))
    by_owed (b ∷ bytes) e = g.1
    by_owed [] e = part_fine login p g.1 e g.5 g.6 parts g.0 g.2 g.3 g.4

run_fine : (most : ℕ) (login : Login) (s : Step) → IsFine login s → Stopped login (run most login Connect s).place (run most login Connect s).stop
unfolding run
run_fine zero login (Stops p s) w = w
run_fine (suc most) login (Stops p s) w = w
run_fine zero login (Goes parts p) w = w.1
run_fine (suc most) login (Goes parts p) w = run_fine most login (step login Connect parts p) (step_fine login parts p w)

texts_connect : (over : Bool) (texts : List (List ℕ)) → over ≡ true → is_connecting over (parts_of_texts texts) ≡ true
texts_connect over [] e = e
texts_connect over (text ∷ texts) e = ap (λ b. b && is_connecting true (parts_of_texts texts)) e ∙ texts_connect true texts refl

texts_left : (texts : List (List ℕ)) → left_in (parts_of_texts texts) ≡ length texts
texts_left [] = refl
texts_left (text ∷ texts) = ap suc (texts_left texts)

-- the first call, from the place at which nothing was received
pub connect_stops : (most : ℕ) (login : Login) (p : Place) → JoinsAt login p → p.older ≡ [] → ends_well (packets_of p.talk) ≡ true → Stopped login (run most login Connect (Goes (parts_of login Connect) p)).place (run most login Connect (Goes (parts_of login Connect) p)).stop
connect_stops most login p w none well =
    let left : left_in (parts_of_texts (arranging_texts login)) ≡ length (arranging_texts login) = texts_left (arranging_texts login) in
    let first : length p.older ≡ 0 = ap length none in
    run_fine most login (Goes (parts_of login Connect) p) (false, w, texts_connect true (arranging_texts login) refl, λ x. absurd (cc), omega (arith, left, first), subst AreDone (sym none) tt, (well, subst AreAccepted (sym none) tt))
