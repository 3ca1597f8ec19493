-- Where a call's steps lead, and that its exchanges say what was sent as they do.
use Rattle.std.proofs.Common.{◌≡◌, ℕ, zero, suc, ◌<◌, ◌≤◌, ◌==◌, ◌&&◌, List, [], ◌∷◌, ◌++◌, length, drop, Bool, true, false, refl, sym, ap, ◌∙◌, subst, arith}
use Rattle.std.proofs.lemmas.List.{append_assoc}
use Rattle.my_grammar.proofs.Cutting.Fronts.{takes_whole}
use Rattle.my_grammar.proofs.Growth.{grows, reads}
use Rattle.my_grammar.specs.declared.login.Login.{Login}
use Rattle.my_grammar.specs.Growth.{Grows, grow, said as response_to}
use Rattle.my_grammar.specs.Talk.{Talk, Fits, client_bytes, limit_of, login_in, number_of, turns, secret_in}
use Rattle.my_reading.specs.declared.call.Call.{Call}
use Rattle.my_reading.specs.Course.{Part, Step, Goes, Stops, Stop, step}
use Rattle.my_reading.specs.Leads.{Leads, Here, Then}
use Rattle.my_reading.specs.Place.{Place, begins_with, client_side, exchanges, with_exchange, with_talk}
use Rattle.my_reading.proofs.Leading.{size, size_of, step_size}
use Rattle.history_laws.proofs.Moving.{Moved, Alters, Takes, Begins, IsAlike, place_of, step_moves}
use Rattle.my_client.specs.Stands.{IsSaid}

-- the steps of a call lead to one that stops
pub record Led (login : Login) (call : Call) (parts : List Part) (p : Place) : Type 0 where
  pub rest : List Part
  pub place : Place
  pub leads : Leads login call parts p rest place
  pub end : Place
  pub stop : Stop
  pub stops : step login call rest place ≡ Stops end stop

leads_within : (n : ℕ) (login : Login) (call : Call) (parts : List Part) (p : Place) → size parts p ≤ n → Led login call parts p
unfolding size_of
leads_within zero login call parts p h = let less = step_size login call parts p in absurd (omega (arith, less, h))
leads_within (suc n) login call parts p h = by_step (λ more q within. leads_within n login call more q within) (step login call parts p) refl
  where
    by_step : ((more : List Part) (q : Place) → size more q ≤ n → Led login call more q) → (x : Step) → step login call parts p ≡ x → Led login call parts p
    by_step on (Stops q s) e = record { rest = parts; place = p; leads = Here parts p; end = q; stop = s; stops = e }
    by_step on (Goes more q) e =
        let less : size more q < size parts p = subst (λ x. size_of x < size parts p) e (step_size login call parts p) in
        let next : Led login call more q = on more q (omega (arith, less, h)) in
        record { rest = next.rest; place = next.place; leads = Then parts p more q next.rest next.place e next.leads; end = next.end; stop = next.stop; stops = next.stops }

pub led : (login : Login) (call : Call) (parts : List Part) (p : Place) → Led login call parts p
led login call parts p = leads_within (size parts p) login call parts p (omega arith)

-- more bytes after those that a list begins with
pub begins_more : (xs ys zs : List ℕ) → begins_with xs zs ≡ true → begins_with (xs ++ ys) zs ≡ true
begins_more xs ys [] e = refl
begins_more [] ys (z ∷ zs) e = cc
begins_more (x ∷ xs) ys (z ∷ zs) e =
    let both = and_true (x == z) (begins_with xs zs) e in
    ap (λ b. b && begins_with (xs ++ ys) zs) both.0 ∙ begins_more xs ys zs both.1
  where
    and_true : (a b : Bool) → a && b ≡ true → (a ≡ true) × (b ≡ true)
    and_true true b e = (refl, e)
    and_true false b e = cc

-- what is sent next begins what is left
pub begins_on : (xs ys zs : List ℕ) → begins_with xs ys ≡ true → begins_with (drop (length ys) xs) zs ≡ true → begins_with xs (ys ++ zs) ≡ true
begins_on xs [] zs e f = f
begins_on [] (y ∷ ys) zs e f = cc
begins_on (x ∷ xs) (y ∷ ys) zs e f =
    let both = and_true (x == y) (begins_with xs ys) e in
    ap (λ b. b && begins_with xs (ys ++ zs)) both.0 ∙ begins_on xs ys zs both.1 f
  where
    and_true : (a b : Bool) → a && b ≡ true → (a ≡ true) × (b ≡ true)
    and_true true b e = (refl, e)
    and_true false b e = cc

-- a place whose newest exchange fits the grammar
pub fits_moved : (p q : Place) → Fits p.talk → Moved p q → Fits q.talk
fits_moved p q f (Alters r alike) = subst Fits (sym alike.talk) f
fits_moved p q f (Takes r k payload rest next paid front kind good alike) =
    let taken = takes_whole (number_of (turns p.talk)) (limit_of p.talk) p.unread payload rest next front in
    let short : length payload ≤ limit_of p.talk = omega (arith, taken.within) in
    subst Fits (sym alike.talk) (grows p.talk k payload kind good short f).fits
fits_moved p q f (Begins r call t paid n alike) = subst Fits (sym alike.talk) n.fits

said_alike : (p q : Place) → IsAlike p q → IsSaid p → IsSaid q
said_alike p q a w =
    let side : client_side (exchanges q) ≡ client_side (exchanges p) =
    ap (λ es. client_side es ++ client_bytes (turns q.talk)) a.older ∙ ap (λ (t : Talk). client_side p.older ++ client_bytes (turns t)) a.talk in
    ap (λ xs. begins_with xs q.sent) side ∙ ap (λ s. begins_with (client_side (exchanges p)) s) a.sent ∙ w

-- a payload that is read, and an exchange that begins, change nothing of what the client said before
said_moved : (login : Login) (p q : Place) → Fits p.talk → IsSaid p → Moved p q → IsSaid q
said_moved login p q f w (Alters r alike) = said_alike p q alike w
said_moved login p q f w (Takes r k payload rest next paid front kind good alike) =
    let taken = takes_whole (number_of (turns p.talk)) (limit_of p.talk) p.unread payload rest next front in
    let short : length payload ≤ limit_of p.talk = omega (arith, taken.within) in
    let g : Grows p.talk k payload = grows p.talk k payload kind good short f in
    let response : List ℕ = response_to (login_in login p.talk) (secret_in p.talk) k payload (number_of (turns p.talk)) in
    let more : client_bytes (turns (grow k p.talk payload)) ≡ client_bytes (turns p.talk) ++ response =
    ap client_bytes (g.turns_are login) ∙ (reads (login_in login p.talk) (secret_in p.talk) k payload (turns p.talk)).client in
    said_alike (with_talk p (grow k p.talk payload) rest) q alike
    (ap (λ bs. begins_with (client_side p.older ++ bs) p.sent) more
    ∙ ap (λ bs. begins_with bs p.sent) (sym (append_assoc (client_side p.older) (client_bytes (turns p.talk)) response))
    ∙ begins_more (client_side (exchanges p)) response p.sent w)
said_moved login p q f w (Begins r call t paid n alike) =
    said_alike (with_exchange p call t) q alike (begins_more (client_side (exchanges p)) (client_bytes (turns t)) p.sent w)

-- so it is where steps lead
pub record Sound (p : Place) : Type 0 where
  pub fits : Fits p.talk
  pub said : IsSaid p

sound_moved : (login : Login) (p q : Place) → Sound p → Moved p q → Sound q
sound_moved login p q w m = record { fits = fits_moved p q w.fits m; said = said_moved login p q w.fits w.said m }

pub leads_fit : (login : Login) (call : Call) (parts rest : List Part) (p r : Place) → Leads login call parts p rest r → Fits p.talk → Fits r.talk
leads_fit login call parts rest p r (Here a b) f = f
leads_fit login call parts rest p r (Then a b more m c d one on) f =
    leads_fit login call more rest m r on (fits_moved p m f (subst (λ x. Moved p (place_of x)) one (step_moves p login call parts)))

leads_sound : (login : Login) (call : Call) (parts rest : List Part) (p r : Place) → Leads login call parts p rest r → Sound p → Sound r
leads_sound login call parts rest p r (Here a b) w = w
leads_sound login call parts rest p r (Then a b more m c d one on) w =
    leads_sound login call more rest m r on (sound_moved login p m w (subst (λ x. Moved p (place_of x)) one (step_moves p login call parts)))

pub led_sound : (login : Login) (call : Call) (parts : List Part) (p : Place) (l : Led login call parts p) → Sound p → Sound l.end
led_sound login call parts p l w =
    sound_moved login l.place l.end (leads_sound login call parts l.rest p l.place l.leads w) (subst (λ x. Moved l.place (place_of x)) l.stops (step_moves l.place login call l.rest))
