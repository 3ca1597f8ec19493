-- What was sent is what the exchanges say, the end of it perhaps cut.
use Rattle.std.proofs.Common.{◌≡◌, ℕ, List, [], ◌∷◌, ◌++◌, ◌==◌, ◌≤◌, length, drop, Bool, true, false, not, ◌||◌, refl, sym, ap, ◌∙◌, subst, arith, Option, None}
use Rattle.std.proofs.lemmas.Bool.{eqb-true}
use Rattle.std.proofs.Math.Seq.{drop-nil}
use Rattle.my_grammar.proofs.Growth.{grows}
use Rattle.my_grammar.proofs.Cutting.Fronts.{takes_whole}
use Rattle.my_grammar.specs.declared.login.Login.{Login}
use Rattle.my_flags.specs.Sets.{deprecates_eof}
use Rattle.my_grammar.specs.declared.packet.Packet.{Packet}
use Rattle.my_grammar.specs.declared.spot.Kind.{Kind}
use Rattle.my_grammar.specs.declared.spot.Kind.TheVariants as kinds
use Rattle.my_grammar.specs.Growth.{grow, is_calm}
use Rattle.my_grammar.specs.Prepares.{grow_reply, packets_in_reply}
use Rattle.my_grammar.specs.Sets.{Asking, ByText, asking_in, grow_sets, packets_in}
use Rattle.my_grammar.specs.Talk.{Talk, Start, Queried, Preparing, Turn, Client, Fits, client_bytes, commands_by, limit_of, number_of, origin, packets_of, served, turns, Greeted, Changing, Server, answers, client_turns}
use Rattle.my_reading.specs.Endings.{AreCalls, IsTape}
use Rattle.my_reading.specs.Place.{Place, begins_with, client_side, exchanges, first_place, owed, with_bytes, with_exchange, with_talk}
use Rattle.my_reading.specs.Reading.{halt_of, is_closing, read_calls, reading}
use Rattle.my_reading.specs.Tape.{Span, Tape, spans}
use Rattle.history_laws.specs.Sent.{EachIsSaid, EachIsSent, IsSentOf, ends_answered, is_answered}
use Rattle.history_laws.proofs.Keeping.{all_sent, calls_keep}
use Rattle.history_laws.proofs.Moving.{Moved, Alters, Takes, Begins, IsAlike}
use Rattle.history_laws.proofs.Stepping.{both}

keeps_sent : (a b : List ℕ) (p q : Place) → p.sent ≡ a → Moved p q → q.sent ≡ a
keeps_sent a b p q w (Alters r alike) = alike.sent ∙ w
keeps_sent a b p q w (Takes r k payload rest next paid front kind good alike) = alike.sent ∙ w
keeps_sent a b p q w (Begins r call t paid n alike) = alike.sent ∙ w

arrives_sent : (a b : List ℕ) (p : Place) (sent taken : List ℕ) → p.sent ≡ a → p.sent ++ sent ≡ a ++ sent
arrives_sent a b p sent taken w = ap (λ x. x ++ sent) w

IsBegun : Place → Type 0
IsBegun p = begins_with (client_side (exchanges p)) p.sent ≡ true

calls_begun : (login : Login) (ss : List Span) (closed : Bool) (p : Place) → IsBegun p → AreCalls login (read_calls login ss closed p).calls → IsBegun (read_calls login ss closed p).place
unfolding read_calls IsBegun
calls_begun login [] closed p w calls = w
calls_begun login (s ∷ ss) closed p w calls = calls_begun login ss (closed || is_closing s.call s.ending) (halt_of login closed s p).place calls.0.sent calls.1

reads_sent : (login : Login) (t : Tape) → IsTape login t → (read_calls login (spans t) false (first_place login)).place.sent ≡ t.sent
reads_sent login t w = calls_keep login (λ a b p. p.sent ≡ a) keeps_sent arrives_sent (spans t) false [] [] (first_place login) refl ∙ all_sent t w.order

reads_begun : (login : Login) (t : Tape) → IsTape login t → IsBegun (read_calls login (spans t) false (first_place login)).place
unfolding reading IsBegun
reads_begun login t w = calls_begun login (spans t) false (first_place login) refl w.calls

pub each_is_sent : EachIsSent
unfolding reading IsBegun
each_is_sent login t w =
    let q : Place = (read_calls login (spans t) false (first_place login)).place in
    subst (λ x. begins_with (client_side (exchanges q)) x ≡ true) (reads_sent login t w) (reads_begun login t w)

-- a payload of the server more changes nothing of what the client says, but for a greeting and a request of a chain, to which it answers
served_client : (ps : List Packet) (ts : List Turn) → client_bytes (served ps ts) ≡ client_bytes ts
served_client [] ts = refl
served_client (p ∷ ps) ts = served_client ps ts

abbrev asked_in : Talk → Asking
asked_in (Queried terms c sets) = asking_in sets
asked_in _ = ByText

calm_answers : (secret : Option (List ℕ)) (k : Kind) (q : List ℕ) → is_calm k ≡ true → answers secret k q ≡ None
calm_answers secret (kinds.Greets offer) q e = absurd (cc)
calm_answers secret (kinds.Asks ask) q e = absurd (cc)
calm_answers secret _ q e = refl

start_kept : (login : Login) (k : Kind) (q : List ℕ) → is_calm k ≡ true → client_bytes (turns (grow k (Start login) q)) ≡ []
start_kept login (kinds.Greets offer) q e = absurd (cc)
start_kept login _ q e = refl

client_kept : (t : Talk) (k : Kind) (q : List ℕ) → origin (grow k t q) ≡ origin t → is_calm k ≡ true → client_bytes (turns (grow k t q)) ≡ client_bytes (turns t)
client_kept (Start login) k q o e = start_kept login k q e
client_kept (Greeted login p offer chain) k q o e = ap (λ x. client_bytes (client_turns x ++ Server q ∷ turns (Greeted login p offer chain))) (calm_answers login.password k q e)
client_kept (Changing terms secret stand c chain) k q o e = ap (λ x. client_bytes (client_turns x ++ Server q ∷ turns (Changing terms secret stand c chain))) (calm_answers secret k q e)
client_kept (Queried terms c x) k q o e =
    let y = grow_sets (deprecates_eof terms.kept) k x q in
    served_client (packets_in y) (commands_by c (asking_in y)) ∙ ap (λ a. client_bytes (commands_by c a)) (ap asked_in o) ∙ sym (served_client (packets_in x) (commands_by c (asking_in x)))
client_kept (Preparing terms c r) k q o e =
    served_client (packets_in_reply (grow_reply (deprecates_eof terms.kept) k r q)) (Client c ∷ []) ∙ sym (served_client (packets_in_reply r) (Client c ∷ []))
client_kept _ k q o e = refl

pub grown_paid : (p : Place) (k : Kind) (q rest : List ℕ) → origin (grow k p.talk q) ≡ origin p.talk → is_calm k ≡ true → owed p ≡ [] → owed (with_talk p (grow k p.talk q) rest) ≡ []
grown_paid p k q rest o e paid = ap (λ bs. drop (length p.sent) (client_side p.older ++ bs)) (client_kept p.talk k q o e) ∙ paid

-- nothing is answered where an exchange begins
packets_none : (t : Talk) → packets_of (origin t) ≡ []
packets_none (Start login) = refl
packets_none _ = refl

pub fresh : (t : Talk) → origin t ≡ t → packets_of t ≡ []
fresh t e = ap packets_of (sym e) ∙ packets_none t

unanswered : (t : Talk) → origin t ≡ t → is_answered t ≡ false
unanswered t e = ap ends_answered (fresh t e)

-- bytes that are sent later change nothing where all was sent
drop_after : (a b xs : List ℕ) → drop (length a) xs ≡ [] → drop (length (a ++ b)) xs ≡ []
drop_after [] b xs e = ap (λ ys. drop (length b) ys) e ∙ drop-nil (length b)
drop_after (x ∷ a) b [] e = drop-nil (length (x ∷ (a ++ b)))
drop_after (x ∷ a) b (y ∷ ys) e = drop_after a b ys e

pub bytes_paid : (p : Place) (sent taken : List ℕ) → owed p ≡ [] → owed (with_bytes sent taken p) ≡ []
bytes_paid p sent taken e = drop_after p.sent sent (client_side (exchanges p)) e

-- all of the older exchanges was sent, and of the newest where the server answered
record IsPaid (p : Place) : Type 0 where
  older : drop (length p.sent) (client_side p.older) ≡ []
  answered : is_answered p.talk ≡ true → owed p ≡ []
  fits : Fits p.talk

owed_alike : (p q : Place) → IsAlike p q → owed q ≡ owed p
owed_alike p q a =
    ap (λ s. drop (length s) (client_side q.older ++ client_bytes (turns q.talk))) a.sent
    ∙ ap (λ es. drop (length p.sent) (client_side es ++ client_bytes (turns q.talk))) a.older
    ∙ ap (λ (t : Talk). drop (length p.sent) (client_side p.older ++ client_bytes (turns t))) a.talk

alike_paid : (p q : Place) → IsAlike p q → IsPaid p → IsPaid q
alike_paid p q a w = record {
  older = ap (λ s. drop (length s) (client_side q.older)) a.sent ∙ ap (λ es. drop (length p.sent) (client_side es)) a.older ∙ w.older;
  answered = λ e. owed_alike p q a ∙ w.answered (subst (λ (t : Talk). is_answered t ≡ true) a.talk e);
  fits = subst Fits (sym a.talk) w.fits;
}

keeps_paid : (a b : List ℕ) (p q : Place) → IsPaid p → Moved p q → IsPaid q
keeps_paid a b p q w (Alters r alike) = alike_paid p q alike w
keeps_paid a b p q w (Takes r k payload rest next paid front kind good alike) =
    let taken = takes_whole (number_of (turns p.talk)) (limit_of p.talk) p.unread payload rest next front in
    let short : length payload ≤ limit_of p.talk = omega (arith, taken.within) in
    let g = grows p.talk k payload kind good short w.fits in
    alike_paid (with_talk p (grow k p.talk payload) rest) q alike
    (record { older = w.older; answered = λ e. grown_paid p k payload rest g.origin_is (sym (ap ends_answered g.packets_are) ∙ e) paid; fits = g.fits })
keeps_paid a b p q w (Begins r call t paid n alike) =
    alike_paid (with_exchange p call t) q alike
    (record { older = paid; answered = λ e. absurd (let no : is_answered t ≡ false = unanswered t n.origin_is in cc); fits = n.fits })

arrives_paid : (a b : List ℕ) (p : Place) (sent taken : List ℕ) → IsPaid p → IsPaid (with_bytes sent taken p)
arrives_paid a b p sent taken w = record {
  older = drop_after p.sent sent (client_side p.older) w.older;
  answered = λ e. bytes_paid p sent taken (w.answered e);
  fits = w.fits;
}

-- so what was sent is in two parts
begins_all : (ys zs : List ℕ) → begins_with ys zs ≡ true → zs ++ drop (length zs) ys ≡ ys
begins_all ys [] e = refl
begins_all [] (z ∷ zs) e = absurd (cc)
begins_all (y ∷ ys) (z ∷ zs) e =
    let x = both (y == z) (begins_with ys zs) e in
    ap (λ w. w ∷ (zs ++ drop (length zs) ys)) (sym (eqb-true y z x.0)) ∙ ap (λ ws. y ∷ ws) (begins_all ys zs x.1)

record IsSplit (xs ys zs : List ℕ) : Type 0 where
  gone : List ℕ
  sent_is : zs ≡ xs ++ gone
  all : gone ++ drop (length zs) (xs ++ ys) ≡ ys

split : (xs ys zs : List ℕ) → begins_with (xs ++ ys) zs ≡ true → drop (length zs) xs ≡ [] → IsSplit xs ys zs
split [] ys zs b d = record { gone = zs; sent_is = refl; all = begins_all ys zs b }
split (x ∷ xs) ys [] b d = absurd (cc)
split (x ∷ xs) ys (z ∷ zs) b d =
    let e = both (x == z) (begins_with (xs ++ ys) zs) b in
    let w = split xs ys zs e.1 d in
    record { gone = w.gone; sent_is = ap (λ v. v ∷ zs) (sym (eqb-true x z e.0)) ∙ ap (λ vs. x ∷ vs) w.sent_is; all = w.all }

place_said : (p : Place) (sent : List ℕ) → IsPaid p → IsBegun p → p.sent ≡ sent → IsSentOf p sent
unfolding IsBegun
place_said p sent w b e =
    let s = split (client_side p.older) (client_bytes (turns p.talk)) p.sent b w.older in
    record { gone = s.gone; sent_is = sym e ∙ s.sent_is; all = s.all; answered = w.answered }

pub each_is_said : EachIsSaid
unfolding reading
each_is_said login t w =
    place_said (read_calls login (spans t) false (first_place login)).place t.sent
    (calls_keep login (λ a b p. IsPaid p) keeps_paid arrives_paid (spans t) false [] [] (first_place login) (record { older = refl; answered = λ e. absurd (cc); fits = record { kinds = tt; within = tt } }))
    (reads_begun login t w) (reads_sent login t w)
