-- What turns over the idle ones make of the list.
use Rattle.std.proofs.Common.{◌≡◌, ℕ, ◌+◌, ◌≤◌, ◌<◌, zero, suc, Bool, true, false, cond, Some, None, List, [], ◌∷◌, ◌++◌, length, refl, sym, ap, ◌∙◌, arith, subst, get_or, append_assoc, append-nil, length-append}
use Rattle.std.specs.Prelude.{find, ◌==◌, ◌||◌, ◌&&◌, not}
use Rattle.std.specs.List.{list_any}
use Rattle.std.proofs.lemmas.Bool.Decides.{nat_tests}
use Rattle.my_pool_parts.specs.declared.connection.Connection.{Connection}
use Rattle.my_pool_parts.specs.declared.connection.Place.{Place}
use Rattle.my_pool_parts.specs.declared.connection.Place.TheVariants.{Idle, Leased, Connecting, Checking, Returned, Cleaning, Resetting, Closing}
use Rattle.my_pool_parts.specs.Connections.{has_number, placed, returned, is_idle, is_idle_place, is_usable, is_usable_place, is_left, unexpired, expired, retire, latest_usable, lasting, outdated, is_outdated, move_to}
use Rattle.my_frame.specs.Lists.{without}
use Rattle.my_pool_parts.specs.Lists.{how_many}
use Rattle.my_pool_parts.proofs.Finding.{one, count-append}
use Rattle.my_pool_parts.proofs.Retiring.{retire-front, latest-front, latest-usable, retire-usable, none-latest}
use Rattle.my_pool_parts.specs.Stored.{numbers_at, IsIdleAt}
use Rattle.my_pool_parts.proofs.Queues.{none-any}

record Split (i n : ℕ) (cs : List Connection) : Type 0 where
  pub front : List Connection
  pub here : Connection
  pub rest : List Connection
  pub whole : cs ≡ front ++ here ∷ rest
  pub its_number : here.number ≡ n
  pub idle : is_idle here ≡ true
  pub before : how_many is_idle front ≡ i

first : (c : Connection) (cs : List Connection) (i d : ℕ) → is_idle c ≡ true → i < 1 + how_many is_idle cs → ((j : ℕ) → j < how_many is_idle cs → Split j (get_or (numbers_at is_idle cs) j d) cs)
    → Split i (get_or (c.number ∷ numbers_at is_idle cs) i d) (c ∷ cs)
first c cs zero d e lt go = record { front = []; here = c; rest = cs; whole = refl; its_number = refl; idle = e; before = refl }
first c cs (suc j) d e lt go =
    let s = go j (omega arith) in
    record { front = c ∷ s.front; here = s.here; rest = s.rest; whole = ap (λ xs. c ∷ xs) s.whole; its_number = s.its_number; idle = s.idle; before = omega (arith, ap one e, s.before) }

split : (cs : List Connection) (i d : ℕ) → i < how_many is_idle cs → Split i (get_or (numbers_at is_idle cs) i d) cs
split [] i d lt = absurd (omega arith)
split (c ∷ cs) i d lt =
    (elim (is_idle c) as (λ b. is_idle c ≡ b → i < one b + how_many is_idle cs → Split i (get_or (cond b (c.number ∷ numbers_at is_idle cs) (numbers_at is_idle cs)) i d) (c ∷ cs)) [
      | true ↦ λ e l. first c cs i d e l (λ j k. split cs j d k)
      | false ↦ λ e l. let s = split cs i d (omega arith) in record { front = c ∷ s.front; here = s.here; rest = s.rest; whole = ap (λ xs. c ∷ xs) s.whole; its_number = s.its_number; idle = s.idle; before = omega (arith, ap one e, s.before) }
    ]) refl lt

pub tested : (k n : ℕ) → k ≡ n → (k == n) ≡ true
tested k n e = grind (arith, nat_tests)

pub idle-at : (cs : List Connection) (i d : ℕ) → i < how_many is_idle cs → ((n : ℕ) → how_many (has_number n) cs ≤ 1) → IsIdleAt i (get_or (numbers_at is_idle cs) i d) cs
idle-at cs i d lt once =
    let n = get_or (numbers_at is_idle cs) i d in
    let s = split cs i d lt in
    let t = tested s.here.number n s.its_number in
    record {
      front = s.front;
      here = s.here;
      rest = s.rest;
      whole = s.whole;
      its_number = s.its_number;
      idle = s.idle;
      before = s.before;
      alone = none-any (has_number n) s.front (omega (arith, once n, ap (how_many (has_number n)) s.whole, count-append (has_number n) s.front (s.here ∷ s.rest), ap one t));
    }

pub without-split : (n : ℕ) (front : List Connection) (here : Connection) (rest : List Connection) → list_any (has_number n) front ≡ false → has_number n here ≡ true → without (has_number n) (front ++ here ∷ rest) ≡ front ++ rest
without-split n [] here rest a e = ap (λ b. cond b rest (here ∷ without (has_number n) rest)) e
without-split n (c ∷ front) here rest a e =
    elim (has_number n c) as (λ b. (b || list_any (has_number n) front) ≡ false → cond b (front ++ here ∷ rest) (c ∷ without (has_number n) (front ++ here ∷ rest)) ≡ c ∷ (front ++ rest)) [
      | true ↦ λ h. absurd (cc)
      | false ↦ λ h. ap (λ xs. c ∷ xs) (without-split n front here rest h e)
    ] a

-- ---- the idle ones from the latest on ----

usable-idle : (now : ℕ) (p : Place) → is_idle_place p ≡ false → is_usable_place now p ≡ false
usable-idle now (Idle t) e = absurd (cc)
usable-idle now Leased e = refl
usable-idle now Connecting e = refl
usable-idle now Checking e = refl
usable-idle now (Returned m) e = refl
usable-idle now (Cleaning m) e = refl
usable-idle now Resetting e = refl
usable-idle now Closing e = refl

pub quiet : (now : ℕ) (cs : List Connection) → how_many is_idle cs ≡ 0 → list_any (is_usable now) cs ≡ false
quiet now [] e = refl
quiet now (c ∷ cs) e =
    (elim (is_idle c) as (λ b. is_idle c ≡ b → one b + how_many is_idle cs ≡ 0 → (is_usable now c || list_any (is_usable now) cs) ≡ false) [
      | true ↦ λ t h. absurd (omega arith)
      | false ↦ λ t h. ap (λ b. b || list_any (is_usable now) cs) (usable-idle now c.place t) ∙ quiet now cs (omega arith)
    ]) refl e

unexpired-quiet : (now : ℕ) (cs : List Connection) → how_many is_idle cs ≡ 0 → unexpired now cs ≡ cs
unexpired-quiet now [] e = refl
unexpired-quiet now (c ∷ cs) e =
    elim (is_idle c) as (λ b. one b + how_many is_idle cs ≡ 0 → cond (b && not (is_usable now c) && not (list_any (is_usable now) cs)) (unexpired now cs) (c ∷ unexpired now cs) ≡ c ∷ cs) [
      | true ↦ λ h. absurd (omega arith)
      | false ↦ λ h. ap (λ xs. c ∷ xs) (unexpired-quiet now cs (omega arith))
    ] e

expired-quiet : (now : ℕ) (cs : List Connection) → how_many is_idle cs ≡ 0 → expired now cs ≡ []
expired-quiet now [] e = refl
expired-quiet now (c ∷ cs) e =
    elim (is_idle c) as (λ b. one b + how_many is_idle cs ≡ 0 → cond (b && not (is_usable now c) && not (list_any (is_usable now) cs)) (expired now cs ++ placed c.number (returned false) ∷ []) (expired now cs) ≡ []) [
      | true ↦ λ h. absurd (omega arith)
      | false ↦ λ h. expired-quiet now cs (omega arith)
    ] e

pub retire-quiet : (now : ℕ) (cs : List Connection) → how_many is_idle cs ≡ 0 → retire now cs ≡ cs
retire-quiet now cs e = ap (λ xs. xs ++ expired now cs) (unexpired-quiet now cs e) ∙ ap (λ xs. cs ++ xs) (expired-quiet now cs e) ∙ append-nil cs

-- an expired one that has no idle one after it is returned
quiet-end : (here : Connection) (rest : List Connection) → how_many is_idle rest ≡ 0 → how_many is_idle (rest ++ placed here.number (returned false) ∷ []) ≡ 0
quiet-end here rest none = omega (arith, none, count-append is_idle rest (placed here.number (returned false) ∷ []))

any-step : (now : ℕ) (here : Connection) (rest front : List Connection) → is_usable now here ≡ false → how_many is_idle rest ≡ 0
    → list_any (is_usable now) (front ++ here ∷ rest) ≡ list_any (is_usable now) (front ++ (rest ++ placed here.number (returned false) ∷ []))
any-step now here rest [] over none =
    ap (λ b. b || list_any (is_usable now) rest) over ∙ quiet now rest none ∙ sym (quiet now (rest ++ placed here.number (returned false) ∷ []) (quiet-end here rest none))
any-step now here rest (c ∷ front) over none = ap (λ b. is_usable now c || b) (any-step now here rest front over none)

unexpired-step : (now : ℕ) (here : Connection) (rest front : List Connection) → is_idle here ≡ true → is_usable now here ≡ false → how_many is_idle rest ≡ 0
    → unexpired now (front ++ here ∷ rest) ++ placed here.number (returned false) ∷ [] ≡ unexpired now (front ++ (rest ++ placed here.number (returned false) ∷ []))
unexpired-step now here rest [] idle over none =
    let left : is_left now here rest ≡ true = ap (λ b. b && not (is_usable now here) && not (list_any (is_usable now) rest)) idle ∙ ap (λ b. true && not b && not (list_any (is_usable now) rest)) over ∙ ap (λ b. true && true && not b) (quiet now rest none) in
    ap (λ b. cond b (unexpired now rest) (here ∷ unexpired now rest) ++ placed here.number (returned false) ∷ []) left
    ∙ ap (λ xs. xs ++ placed here.number (returned false) ∷ []) (unexpired-quiet now rest none)
    ∙ sym (unexpired-quiet now (rest ++ placed here.number (returned false) ∷ []) (quiet-end here rest none))
unexpired-step now here rest (c ∷ front) idle over none =
    let A = front ++ here ∷ rest in
    let B = front ++ (rest ++ placed here.number (returned false) ∷ []) in
    let same : is_left now c A ≡ is_left now c B = ap (λ u. is_idle c && not (is_usable now c) && not u) (any-step now here rest front over none) in
    let go = unexpired-step now here rest front idle over none in
    ap (λ b. cond b (unexpired now A) (c ∷ unexpired now A) ++ placed here.number (returned false) ∷ []) same
    ∙ (elim (is_left now c B) as (λ b. cond b (unexpired now A) (c ∷ unexpired now A) ++ placed here.number (returned false) ∷ [] ≡ cond b (unexpired now B) (c ∷ unexpired now B)) [
      | true ↦ go
      | false ↦ ap (λ xs. c ∷ xs) go
    ])

expired-step : (now : ℕ) (here : Connection) (rest front : List Connection) → is_idle here ≡ true → is_usable now here ≡ false → how_many is_idle rest ≡ 0
    → expired now (front ++ here ∷ rest) ≡ placed here.number (returned false) ∷ expired now (front ++ (rest ++ placed here.number (returned false) ∷ []))
expired-step now here rest [] idle over none =
    let left : is_left now here rest ≡ true = ap (λ b. b && not (is_usable now here) && not (list_any (is_usable now) rest)) idle ∙ ap (λ b. true && not b && not (list_any (is_usable now) rest)) over ∙ ap (λ b. true && true && not b) (quiet now rest none) in
    ap (λ b. cond b (expired now rest ++ placed here.number (returned false) ∷ []) (expired now rest)) left
    ∙ ap (λ xs. xs ++ placed here.number (returned false) ∷ []) (expired-quiet now rest none)
    ∙ ap (λ xs. placed here.number (returned false) ∷ xs) (sym (expired-quiet now (rest ++ placed here.number (returned false) ∷ []) (quiet-end here rest none)))
expired-step now here rest (c ∷ front) idle over none =
    let A = front ++ here ∷ rest in
    let B = front ++ (rest ++ placed here.number (returned false) ∷ []) in
    let same : is_left now c A ≡ is_left now c B = ap (λ u. is_idle c && not (is_usable now c) && not u) (any-step now here rest front over none) in
    let go = expired-step now here rest front idle over none in
    let r = placed c.number (returned false) in
    ap (λ b. cond b (expired now A ++ r ∷ []) (expired now A)) same
    ∙ (elim (is_left now c B) as (λ b. cond b (expired now A ++ r ∷ []) (expired now A) ≡ placed here.number (returned false) ∷ cond b (expired now B ++ r ∷ []) (expired now B)) [
      | true ↦ ap (λ xs. xs ++ r ∷ []) go
      | false ↦ go
    ])

latest-step : (now : ℕ) (here : Connection) (rest front : List Connection) → is_usable now here ≡ false → how_many is_idle rest ≡ 0
    → latest_usable now (front ++ here ∷ rest) ≡ latest_usable now (front ++ (rest ++ placed here.number (returned false) ∷ []))
latest-step now here rest [] over none =
    none-latest now (here ∷ rest) (ap (λ b. b || list_any (is_usable now) rest) over ∙ quiet now rest none)
    ∙ sym (none-latest now (rest ++ placed here.number (returned false) ∷ []) (quiet now (rest ++ placed here.number (returned false) ∷ []) (quiet-end here rest none)))
latest-step now here rest (c ∷ front) over none =
    let A = front ++ here ∷ rest in
    let B = front ++ (rest ++ placed here.number (returned false) ∷ []) in
    ap (λ b. cond b (latest_usable now A) (cond (is_usable now c) (Some c.number) None)) (any-step now here rest front over none)
    ∙ ap (λ o. cond (list_any (is_usable now) B) o (cond (is_usable now c) (Some c.number) None)) (latest-step now here rest front over none)

-- how an idle one that is returned moves
pub moved-split : (n : ℕ) (p : Place) (cs front : List Connection) (here : Connection) (rest : List Connection) → cs ≡ front ++ here ∷ rest → here.number ≡ n → list_any (has_number n) front ≡ false
    → move_to n p cs ≡ (front ++ rest) ++ placed here.number p ∷ []
moved-split n p cs front here rest w e alone =
    ap (λ xs. without (has_number n) xs ++ placed n p ∷ []) w
    ∙ ap (λ xs. xs ++ placed n p ∷ []) (without-split n front here rest alone (tested here.number n e))
    ∙ ap (λ k. (front ++ rest) ++ placed k p ∷ []) (sym e)

-- the latest idle one, where it is expired
pub retire-goes : (now i n : ℕ) (cs : List Connection) (h : IsIdleAt i n cs) → how_many is_idle cs ≡ i + 1 → is_usable now h.here ≡ false
    → (retire now (move_to n (returned false) cs) ≡ retire now cs) × (latest_usable now (move_to n (returned false) cs) ≡ latest_usable now cs) × (how_many is_idle (move_to n (returned false) cs) ≡ i)
retire-goes now i n cs h all over =
    let none : how_many is_idle h.rest ≡ 0 = omega (arith, all, ap (how_many is_idle) h.whole, count-append is_idle h.front (h.here ∷ h.rest), ap one h.idle, h.before) in
    let r = placed h.here.number (returned false) in
    let moved = moved-split n (returned false) cs h.front h.here h.rest h.whole h.its_number h.alone ∙ append_assoc h.front h.rest (r ∷ []) in
    let B = h.front ++ (h.rest ++ r ∷ []) in (
      ap (retire now) moved ∙ ap (λ xs. xs ++ expired now B) (sym (unexpired-step now h.here h.rest h.front h.idle over none))
          ∙ append_assoc (unexpired now (h.front ++ h.here ∷ h.rest)) (r ∷ []) (expired now B)
          ∙ ap (λ xs. unexpired now (h.front ++ h.here ∷ h.rest) ++ xs) (sym (expired-step now h.here h.rest h.front h.idle over none))
          ∙ ap (retire now) (sym h.whole),
      ap (latest_usable now) moved ∙ sym (latest-step now h.here h.rest h.front over none) ∙ ap (latest_usable now) (sym h.whole),
      omega (arith, ap (how_many is_idle) moved, count-append is_idle h.front (h.rest ++ r ∷ []), quiet-end h.here h.rest none, h.before),
    )

-- and where it may be used
pub retire-stops : (now i n : ℕ) (cs : List Connection) (h : IsIdleAt i n cs) → how_many is_idle cs ≡ i + 1 → is_usable now h.here ≡ true
    → (retire now cs ≡ cs) × (latest_usable now cs ≡ Some n)
retire-stops now i n cs h all usable =
    let none : how_many is_idle h.rest ≡ 0 = omega (arith, all, ap (how_many is_idle) h.whole, count-append is_idle h.front (h.here ∷ h.rest), ap one h.idle, h.before) in
    let any : list_any (is_usable now) (h.here ∷ h.rest) ≡ true = ap (λ b. b || list_any (is_usable now) h.rest) usable in (
      ap (retire now) h.whole ∙ retire-front now h.front (h.here ∷ h.rest) any ∙ ap (λ xs. h.front ++ xs) (retire-usable now h.here h.rest usable)
          ∙ ap (λ xs. h.front ++ h.here ∷ xs) (retire-quiet now h.rest none) ∙ sym h.whole,
      ap (latest_usable now) h.whole ∙ latest-front now h.front (h.here ∷ h.rest) any ∙ latest-usable now h.here h.rest usable (quiet now h.rest none) ∙ ap (λ k. Some k) h.its_number,
    )

-- the idle one is found by its number
pub idle-found : (i n : ℕ) (cs : List Connection) (h : IsIdleAt i n cs) → find (has_number n) cs ≡ Some h.here
idle-found i n cs h = ap (find (has_number n)) h.whole ∙ past h.front h.alone
  where
    past : (front : List Connection) → list_any (has_number n) front ≡ false → find (has_number n) (front ++ h.here ∷ h.rest) ≡ Some h.here
    past [] a = ap (λ b. cond b (Some h.here) (find (has_number n) h.rest)) (tested h.here.number n h.its_number)
    past (c ∷ front) a =
        elim (has_number n c) as (λ b. (b || list_any (has_number n) front) ≡ false → cond b (Some c) (find (has_number n) (front ++ h.here ∷ h.rest)) ≡ Some h.here) [
          | true ↦ λ k. absurd (cc)
          | false ↦ λ k. past front k
        ] a

-- ---- from the one that is idle longest on ----

outdated-idle : (now inactive many moved : ℕ) (p : Place) → is_idle_place p ≡ false → is_outdated now inactive many moved p ≡ false
outdated-idle now inactive many moved (Idle t) e = absurd (cc)
outdated-idle now inactive many moved Leased e = refl
outdated-idle now inactive many moved Connecting e = refl
outdated-idle now inactive many moved Checking e = refl
outdated-idle now inactive many moved (Returned m) e = refl
outdated-idle now inactive many moved (Cleaning m) e = refl
outdated-idle now inactive many moved Resetting e = refl
outdated-idle now inactive many moved Closing e = refl

lasting-past : (now inactive many moved : ℕ) (xs ys : List Connection) → how_many is_idle xs ≡ 0 → lasting now inactive many moved (xs ++ ys) ≡ xs ++ lasting now inactive many moved ys
lasting-past now inactive many moved [] ys e = refl
lasting-past now inactive many moved (c ∷ xs) ys e =
    (elim (is_idle c) as (λ b. is_idle c ≡ b → one b + how_many is_idle xs ≡ 0 → cond (is_outdated now inactive many moved c.place) (lasting now inactive many (moved + 1) (xs ++ ys)) (c ∷ lasting now inactive many moved (xs ++ ys)) ≡ c ∷ (xs ++ lasting now inactive many moved ys)) [
      | true ↦ λ t h. absurd (omega arith)
      | false ↦ λ t h. ap (λ b. cond b (lasting now inactive many (moved + 1) (xs ++ ys)) (c ∷ lasting now inactive many moved (xs ++ ys))) (outdated-idle now inactive many moved c.place t) ∙ ap (λ zs. c ∷ zs) (lasting-past now inactive many moved xs ys (omega arith))
    ]) refl e

outdated-past : (now inactive many moved : ℕ) (xs ys : List Connection) → how_many is_idle xs ≡ 0 → outdated now inactive many moved (xs ++ ys) ≡ outdated now inactive many moved ys
outdated-past now inactive many moved [] ys e = refl
outdated-past now inactive many moved (c ∷ xs) ys e =
    (elim (is_idle c) as (λ b. is_idle c ≡ b → one b + how_many is_idle xs ≡ 0 → cond (is_outdated now inactive many moved c.place) (placed c.number (returned true) ∷ outdated now inactive many (moved + 1) (xs ++ ys)) (outdated now inactive many moved (xs ++ ys)) ≡ outdated now inactive many moved ys) [
      | true ↦ λ t h. absurd (omega arith)
      | false ↦ λ t h. ap (λ b. cond b (placed c.number (returned true) ∷ outdated now inactive many (moved + 1) (xs ++ ys)) (outdated now inactive many moved (xs ++ ys))) (outdated-idle now inactive many moved c.place t) ∙ outdated-past now inactive many moved xs ys (omega arith)
    ]) refl e

-- so far: those in front stay, those at the end don't, and the rest was not looked at
pub record IsSwept (old cs : List Connection) (now inactive many index moved : ℕ) : Type 0 where
  pub front : List Connection
  pub rest : List Connection
  pub gone : List Connection
  pub all : cs ≡ front ++ (rest ++ gone)
  pub stay : front ++ lasting now inactive many moved rest ≡ lasting now inactive many 0 old
  pub go : gone ++ outdated now inactive many moved rest ≡ outdated now inactive many 0 old
  pub moves : length gone ≡ moved
  pub behind : how_many is_idle front ≡ index
  pub still : how_many is_idle gone ≡ 0

pub swept-begins : (old : List Connection) (now inactive many : ℕ) → IsSwept old old now inactive many 0 0
swept-begins old now inactive many = record {
  front = [];
  rest = old;
  gone = [];
  all = sym (append-nil old);
  stay = refl;
  go = refl;
  moves = refl;
  behind = refl;
  still = refl;
}

same-split : (a : List Connection) (c : Connection) (b a' : List Connection) (c' : Connection) (b' : List Connection) → a ++ c ∷ b ≡ a' ++ c' ∷ b' → how_many is_idle a ≡ how_many is_idle a' → is_idle c ≡ true → is_idle c' ≡ true
    → (a ≡ a') × (c ≡ c') × (b ≡ b')
same-split [] c b [] c' b' e n i j = (refl, cc, cc)
same-split [] c b (x ∷ a') c' b' e n i j = let s : c ≡ x = cc in absurd (omega (arith, n, ap one (sym (ap is_idle s) ∙ i)))
same-split (x ∷ a) c b [] c' b' e n i j = let s : x ≡ c' = cc in absurd (omega (arith, n, ap one (ap is_idle s ∙ j)))
same-split (x ∷ a) c b (y ∷ a') c' b' e n i j =
    let s : x ≡ y = cc in
    let t : a ++ c ∷ b ≡ a' ++ c' ∷ b' = cc in
    let go = same-split a c b a' c' b' t (omega (arith, n, ap one (ap is_idle s))) i j in
    (ap (λ z. z ∷ a) s ∙ ap (λ zs. y ∷ zs) go.0, go.1, go.2)

-- the first idle one of the rest
record First (old cs : List Connection) (now inactive many index moved : ℕ) (n : ℕ) (here : Connection) (h : IsSwept old cs now inactive many index moved) : Type 0 where
  pub left : List Connection
  pub right : List Connection
  pub parts : h.rest ≡ left ++ here ∷ right
  pub none : how_many is_idle left ≡ 0
  pub whole : cs ≡ (h.front ++ left) ++ here ∷ (right ++ h.gone)

first-of : (old cs : List Connection) (now inactive many index moved n : ℕ) (h : IsSwept old cs now inactive many index moved) (x : IsIdleAt index n cs) → First old cs now inactive many index moved n x.here h
first-of old cs now inactive many index moved n h x =
    let some : 0 < how_many is_idle h.rest = omega (arith, ap (how_many is_idle) h.all, count-append is_idle h.front (h.rest ++ h.gone), count-append is_idle h.rest h.gone, h.behind, h.still, ap (how_many is_idle) x.whole, count-append is_idle x.front (x.here ∷ x.rest), ap one x.idle, x.before) in
    let s = split h.rest 0 0 some in
    let whole : cs ≡ (h.front ++ s.front) ++ s.here ∷ (s.rest ++ h.gone) =
    h.all ∙ ap (λ r. h.front ++ (r ++ h.gone)) s.whole ∙ ap (λ r. h.front ++ r) (append_assoc s.front (s.here ∷ s.rest) h.gone) ∙ sym (append_assoc h.front s.front (s.here ∷ (s.rest ++ h.gone))) in
    let same = same-split (h.front ++ s.front) s.here (s.rest ++ h.gone) x.front x.here x.rest (sym whole ∙ x.whole) (omega (arith, count-append is_idle h.front s.front, h.behind, s.before, x.before)) s.idle x.idle in
    record {
      left = s.front;
      right = s.rest;
      parts = s.whole ∙ ap (λ c. s.front ++ c ∷ s.rest) same.1;
      none = s.before;
      whole = whole ∙ ap (λ c. (h.front ++ s.front) ++ c ∷ (s.rest ++ h.gone)) same.1;
    }

pub swept-stays : (old cs : List Connection) (now inactive many index moved n : ℕ) (h : IsSwept old cs now inactive many index moved) (x : IsIdleAt index n cs) → is_outdated now inactive many moved x.here.place ≡ false
    → IsSwept old cs now inactive many (index + 1) moved
swept-stays old cs now inactive many index moved n h x k =
    let f = first-of old cs now inactive many index moved n h x in
    let c = x.here in
    let front = h.front ++ f.left in
    record {
      front = front ++ c ∷ [];
      rest = f.right;
      gone = h.gone;
      all = f.whole ∙ sym (append_assoc front (c ∷ []) (f.right ++ h.gone));
      stay = append_assoc front (c ∷ []) (lasting now inactive many moved f.right)
          ∙ append_assoc h.front f.left (c ∷ lasting now inactive many moved f.right)
          ∙ ap (λ b. h.front ++ (f.left ++ cond b (lasting now inactive many (moved + 1) f.right) (c ∷ lasting now inactive many moved f.right))) (sym k)
          ∙ ap (λ xs. h.front ++ xs) (sym (lasting-past now inactive many moved f.left (c ∷ f.right) f.none))
          ∙ ap (λ xs. h.front ++ lasting now inactive many moved xs) (sym f.parts) ∙ h.stay;
      go = ap (λ b. h.gone ++ cond b (placed c.number (returned true) ∷ outdated now inactive many (moved + 1) f.right) (outdated now inactive many moved f.right)) (sym k)
          ∙ ap (λ xs. h.gone ++ xs) (sym (outdated-past now inactive many moved f.left (c ∷ f.right) f.none))
          ∙ ap (λ xs. h.gone ++ outdated now inactive many moved xs) (sym f.parts) ∙ h.go;
      moves = h.moves;
      behind = omega (arith, count-append is_idle front (c ∷ []), count-append is_idle h.front f.left, h.behind, f.none, ap one x.idle);
      still = h.still;
    }

pub swept-goes : (old cs : List Connection) (now inactive many index moved n : ℕ) (h : IsSwept old cs now inactive many index moved) (x : IsIdleAt index n cs) → is_outdated now inactive many moved x.here.place ≡ true
    → IsSwept old (move_to n (returned true) cs) now inactive many index (moved + 1)
swept-goes old cs now inactive many index moved n h x k =
    let f = first-of old cs now inactive many index moved n h x in
    let c = x.here in
    let p = placed c.number (returned true) in
    let front = h.front ++ f.left in
    let same = same-split front c (f.right ++ h.gone) x.front x.here x.rest (sym f.whole ∙ x.whole) (omega (arith, count-append is_idle h.front f.left, h.behind, f.none, x.before)) x.idle x.idle in
    let alone : list_any (has_number n) front ≡ false = ap (list_any (has_number n)) same.0 ∙ x.alone in
    record {
      front = front;
      rest = f.right;
      gone = h.gone ++ p ∷ [];
      all = moved-split n (returned true) cs front c (f.right ++ h.gone) f.whole x.its_number alone
          ∙ append_assoc front (f.right ++ h.gone) (p ∷ []) ∙ ap (λ xs. front ++ xs) (append_assoc f.right h.gone (p ∷ []));
      stay = append_assoc h.front f.left (lasting now inactive many (moved + 1) f.right)
          ∙ ap (λ b. h.front ++ (f.left ++ cond b (lasting now inactive many (moved + 1) f.right) (c ∷ lasting now inactive many moved f.right))) (sym k)
          ∙ ap (λ xs. h.front ++ xs) (sym (lasting-past now inactive many moved f.left (c ∷ f.right) f.none))
          ∙ ap (λ xs. h.front ++ lasting now inactive many moved xs) (sym f.parts) ∙ h.stay;
      go = append_assoc h.gone (p ∷ []) (outdated now inactive many (moved + 1) f.right)
          ∙ ap (λ b. h.gone ++ cond b (p ∷ outdated now inactive many (moved + 1) f.right) (outdated now inactive many moved f.right)) (sym k)
          ∙ ap (λ xs. h.gone ++ xs) (sym (outdated-past now inactive many moved f.left (c ∷ f.right) f.none))
          ∙ ap (λ xs. h.gone ++ outdated now inactive many moved xs) (sym f.parts) ∙ h.go;
      moves = omega (arith, length-append h.gone (p ∷ []), h.moves);
      behind = omega (arith, count-append is_idle h.front f.left, h.behind, f.none);
      still = omega (arith, count-append is_idle h.gone (p ∷ []), h.still);
    }

pub swept-ends : (old cs : List Connection) (now inactive many index moved : ℕ) → IsSwept old cs now inactive many index moved → how_many is_idle cs ≤ index
    → (cs ≡ lasting now inactive many 0 old ++ outdated now inactive many 0 old) × (moved ≡ length (outdated now inactive many 0 old))
swept-ends old cs now inactive many index moved h le =
    let none : how_many is_idle h.rest ≡ 0 = omega (arith, le, ap (how_many is_idle) h.all, count-append is_idle h.front (h.rest ++ h.gone), count-append is_idle h.rest h.gone, h.behind) in
    let rest : lasting now inactive many moved h.rest ≡ h.rest = ap (lasting now inactive many moved) (sym (append-nil h.rest)) ∙ lasting-past now inactive many moved h.rest [] none ∙ append-nil h.rest in
    let nothing : outdated now inactive many moved h.rest ≡ [] = ap (outdated now inactive many moved) (sym (append-nil h.rest)) ∙ outdated-past now inactive many moved h.rest [] none in
    let front : h.front ++ h.rest ≡ lasting now inactive many 0 old = ap (λ xs. h.front ++ xs) (sym rest) ∙ h.stay in
    let gone : h.gone ≡ outdated now inactive many 0 old = sym (append-nil h.gone) ∙ ap (λ xs. h.gone ++ xs) (sym nothing) ∙ h.go in (
      h.all ∙ sym (append_assoc h.front h.rest h.gone) ∙ ap (λ xs. xs ++ h.gone) front ∙ ap (λ xs. lasting now inactive many 0 old ++ xs) gone,
      sym h.moves ∙ ap length gone,
    )

-- one fewer is idle
pub fewer-idle : (i n : ℕ) (marked : Bool) (cs : List Connection) → IsIdleAt i n cs → how_many is_idle (move_to n (returned marked) cs) + 1 ≡ how_many is_idle cs
fewer-idle i n marked cs h =
    omega (
      arith,
      ap (how_many is_idle) (moved-split n (returned marked) cs h.front h.here h.rest h.whole h.its_number h.alone),
      count-append is_idle (h.front ++ h.rest) (placed h.here.number (returned marked) ∷ []),
      count-append is_idle h.front h.rest,
      ap (how_many is_idle) h.whole,
      count-append is_idle h.front (h.here ∷ h.rest),
      ap one h.idle,
    )

pub swept-as : (old : List Connection) (now inactive many : ℕ) (cs ds : List Connection) (i j m n : ℕ) → IsSwept old cs now inactive many i m → ds ≡ cs → j ≡ i → n ≡ m → IsSwept old ds now inactive many j n
swept-as old now inactive many cs ds i j m n h a b c =
    subst (λ xs. IsSwept old xs now inactive many j n) (sym a) (subst (λ k. IsSwept old cs now inactive many k n) (sym b) (subst (λ k. IsSwept old cs now inactive many i k) (sym c) h))
