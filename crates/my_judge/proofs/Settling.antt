-- What the program knows once bytes were added, or paired with those that are owed.
use Rattle.std.proofs.Common.{◌≡◌, ℕ, zero, suc, ◌+◌, ◌≤◌, ◌==◌, List, [], ◌∷◌, ◌++◌, length, take, drop, Bool, true, false, ◌&&◌, refl, sym, ap, ◌∙◌, subst, arith}
use Rattle.std.specs.Bool.{Decides}
use Rattle.std.proofs.lemmas.Bool.Decides.{nat_tests}
use Rattle.std.proofs.lemmas.List.{append_assoc, length-append, length-drop, length-take, take-append-drop}
use Rattle.my_grammar.specs.declared.login.Login.{Login}
use Rattle.my_reading.specs.Place.{Place, begins_with, client_side, exchanges, with_bytes}
use Rattle.my_machine.specs.declared.stand.Stand.{Stand as Machine}
use Rattle.my_machine.specs.Stands.{IsArranged, IsAt as MachineAt, stand_of, with_bytes as with_more, with_owed}
use Rattle.my_judge.specs.declared.stand.Stand.{Stand}
use Rattle.my_judge.specs.Stands.{IsAt, Settles, with_bytes as with_new}
use Rattle.my_judge.proofs.Resending.{with_sent}

-- the machine is at that place with what the exchanges have said
pub machine_at : (login : Login) (p : Place) (s : Stand) (at : IsAt login p s) → MachineAt login (with_sent at.told p) s.machine
machine_at login p s at = record { stand_is = at.machine_is; arranged_is = at.arranged_is; fits = at.fits; login_is = at.login_is; owed_is = at.owed_is }

-- the machine goes to another place, and nothing is sent
abbrev pub with_machine : Machine → Stand → Stand
with_machine m s = record { machine = m; sent = s.sent; settled = s.settled; right = s.right }

pub at_again : (login : Login) (r end : Place) (s : Stand) (m : Machine) (at : IsAt login r s) → MachineAt login end m → end.sent ≡ at.told → IsAt login (with_sent r.sent end) (with_machine m s)
at_again login r end s m at there same = record {
  told = at.told;
  machine_is = there.stand_is;
  arranged_is = there.arranged_is;
  fits = there.fits;
  login_is = there.login_is;
  owed_is = ap (λ (bytes : List ℕ). bytes ++ m.owed) (sym same) ∙ there.owed_is;
  sent_is = at.sent_is;
  settled_is = at.settled_is;
  within = at.within;
  right_is = at.right_is;
}

pub and_decides : (a b : Bool) (P : Type 0) → Decides b P → Decides (a && b) ((a ≡ true) × P)
and_decides true b P d = (λ e. (refl, d.0 e), λ w. d.1 w.1)
and_decides false b P d = (λ e. cc, λ w. w.0)

-- bytes are added
take_longer : (n : ℕ) (xs ys : List ℕ) → n ≤ length xs → take n (xs ++ ys) ≡ take n xs
take_longer zero [] ys h = refl
take_longer zero (x ∷ xs) ys h = refl
take_longer (suc n) [] ys h = absurd (omega (arith, h))
take_longer (suc n) (x ∷ xs) ys h = ap (λ zs. x ∷ zs) (take_longer n xs ys (omega (arith, h)))

pub at_bytes : (login : Login) (p : Place) (s : Stand) (sent taken : List ℕ) → IsAt login p s → IsAt login (with_bytes sent taken p) (with_new sent taken s)
at_bytes login p s sent taken at = record {
  told = at.told;
  machine_is = ap (with_more [] taken) at.machine_is;
  arranged_is = at.arranged_is;
  fits = at.fits;
  login_is = at.login_is;
  owed_is = ap (λ (bytes : List ℕ). at.told ++ bytes) (all_left s.machine.owed) ∙ at.owed_is;
  sent_is = ap (λ (bytes : List ℕ). bytes ++ sent) at.sent_is;
  settled_is = at.settled_is;
  within = omega (arith, at.within, length-append s.sent sent);
  right_is = subst (λ (bytes : List ℕ). Decides s.right (bytes ≡ at.told)) (sym (take_longer s.settled s.sent sent at.within)) at.right_is;
}
  where
    all_left : (xs : List ℕ) → drop 0 xs ≡ xs
    all_left [] = refl
    all_left (x ∷ xs) = refl

-- bytes that are owed were sent
take_sum : (m n : ℕ) (xs : List ℕ) → take (m + n) xs ≡ take m xs ++ take n (drop m xs)
take_sum zero n [] = let same : zero + n ≡ n = omega arith in ap (λ i. take i []) same
take_sum zero n (x ∷ xs) = let same : zero + n ≡ n = omega arith in ap (λ i. take i (x ∷ xs)) same
take_sum (suc m) n [] = none_taken (suc m + n) ∙ sym (none_taken n)
  where
    none_taken : (i : ℕ) → take {A = ℕ} i [] ≡ []
    none_taken zero = refl
    none_taken (suc i) = refl
take_sum (suc m) n (x ∷ xs) = let one : suc m + n ≡ suc (m + n) = omega arith in ap (λ i. take i (x ∷ xs)) one ∙ ap (λ ys. x ∷ ys) (take_sum m n xs)

-- lists of which the first parts are as long
same_front : (xs ys us vs : List ℕ) → length xs ≡ length us → xs ++ ys ≡ us ++ vs → (xs ≡ us) × (ys ≡ vs)
same_front [] ys [] vs l e = (refl, e)
same_front [] ys (u ∷ us) vs l e = absurd (omega (arith, l))
same_front (x ∷ xs) ys [] vs l e = absurd (omega (arith, l))
same_front (x ∷ xs) ys (u ∷ us) vs l e =
    let head : x ≡ u = cc in
    let tail : xs ++ ys ≡ us ++ vs = cc in
    let w = same_front xs ys us vs (omega (arith, l)) tail in
    (cc, w.1)

module _ (login : Login) (p : Place) (old new : Stand) (count : ℕ) (at : IsAt login p old) (h : Settles old count new) where
  abbrev said : List ℕ
  said = take count old.machine.owed

  abbrev paid : List ℕ
  paid = take count (drop old.settled old.sent)

  fits_ahead : count ≤ length (drop old.settled old.sent)
  fits_ahead = omega (arith, h.count_is, length-drop old.settled old.sent)

  fits_owed : count ≤ length old.machine.owed
  fits_owed = omega (arith, h.count_is)

  all_said : length said ≡ count
  all_said = let l = length-take count old.machine.owed in omega (arith, l, fits_owed)

  fronts : take new.settled new.sent ≡ take old.settled old.sent ++ paid
  fronts = ap (λ n. take n new.sent) h.settled_is ∙ ap (take (old.settled + count)) h.sent_is ∙ take_sum old.settled count old.sent

  as_long : length (take old.settled old.sent) ≡ length at.told
  as_long = let l = length-take old.settled old.sent in omega (arith, l, at.within, at.settled_is)

  right_now : Decides new.right (take new.settled new.sent ≡ at.told ++ said)
  right_now = (
    λ e. let w = h.right_is.0 e in
        let front : take old.settled old.sent ≡ at.told = at.right_is.0 w.0 in
        let back : paid ≡ said = w.1 in
        fronts ∙ ap (λ (xs : List ℕ). xs ++ paid) front ∙ ap (λ (xs : List ℕ). at.told ++ xs) back,
    λ e. let w = same_front (take old.settled old.sent) paid at.told said as_long (sym fronts ∙ e) in h.right_is.1 (at.right_is.1 w.0, w.1),
  )

  pub settled_at : IsAt login p new
  settled_at = record {
    told = at.told ++ said;
    machine_is = subst (λ (m : Machine). m ≡ stand_of login p m.arranged m.owed) (sym h.machine_is) (ap (with_owed (drop count old.machine.owed)) at.machine_is);
    arranged_is = subst (λ (m : Machine). IsArranged login p m.arranged) (sym h.machine_is) at.arranged_is;
    fits = at.fits;
    login_is = at.login_is;
    owed_is = ap (λ (bytes : List ℕ). (at.told ++ said) ++ bytes) (ap (λ (m : Machine). m.owed) h.machine_is)
        ∙ append_assoc at.told said (drop count old.machine.owed) ∙ ap (λ (bytes : List ℕ). at.told ++ bytes) (take-append-drop count old.machine.owed) ∙ at.owed_is;
    sent_is = h.sent_is ∙ at.sent_is;
    settled_is = omega (arith, h.settled_is, at.settled_is, length-append at.told said, all_said);
    within = omega (arith, h.settled_is, ap length h.sent_is, at.within, fits_ahead, length-drop old.settled old.sent);
    right_is = right_now;
  }

-- what was sent is a beginning of what the exchanges say
all_sent : (xs : List ℕ) → drop 0 xs ≡ xs
all_sent [] = refl
all_sent (x ∷ xs) = refl

begins_split : (said owed sent : List ℕ) (b : Bool) → length said ≤ length sent → Decides b (take (length said) sent ≡ said)
    → begins_with (said ++ owed) sent ≡ b && begins_with owed (drop (length said) sent)
begins_split [] owed sent b h d = ap (λ (xs : List ℕ). begins_with owed xs) (sym (all_sent sent)) ∙ ap (λ x. x && begins_with owed (drop 0 sent)) (sym (d.1 (none_taken sent)))
  where
    none_taken : (xs : List ℕ) → take 0 xs ≡ []
    none_taken [] = refl
    none_taken (x ∷ xs) = refl
begins_split (y ∷ said) owed [] b h d = absurd (omega (arith, h))
begins_split (y ∷ said) owed (x ∷ sent) b h d = by_first (λ f. begins_split said owed sent b (omega (arith, h)) f) (y == x) refl
  where
    by_first : (Decides b (take (length said) sent ≡ said) → begins_with (said ++ owed) sent ≡ b && begins_with owed (drop (length said) sent))
        → (z : Bool) → (y == x) ≡ z → (y == x) && begins_with (said ++ owed) sent ≡ b && begins_with owed (drop (length said) sent)
    by_first next true e =
        let same : x ≡ y = grind (arith, nat_tests) in
        rw e (next (
          λ f. let w : x ∷ take (length said) sent ≡ y ∷ said = d.0 f in cc,
          λ f. d.1 (ap (λ z. z ∷ take (length said) sent) same ∙ ap (λ (xs : List ℕ). y ∷ xs) f),
        ))
    by_first next false e = rw e (sym (ap (λ z. z && begins_with owed (drop (length said) sent)) (wrong b refl)))
      where
        wrong : (z : Bool) → b ≡ z → b ≡ false
        wrong false f = f
        wrong true f = let w : x ∷ take (length said) sent ≡ y ∷ said = d.0 f in let same : x ≡ y = cc in absurd (grind (arith, nat_tests))

pub sent_right : (login : Login) (p : Place) (s : Stand) → IsAt login p s → s.right && begins_with s.machine.owed (drop s.settled s.sent) ≡ begins_with (client_side (exchanges p)) p.sent
sent_right login p s at =
    ap (λ n. s.right && begins_with s.machine.owed (drop n s.sent)) at.settled_is
    ∙ sym (begins_split at.told s.machine.owed s.sent s.right (omega (arith, at.within, at.settled_is)) (subst (λ n. Decides s.right (take n s.sent ≡ at.told)) at.settled_is at.right_is))
    ∙ ap (λ (bytes : List ℕ). begins_with bytes s.sent) at.owed_is
    ∙ ap (begins_with (client_side (exchanges p))) at.sent_is
