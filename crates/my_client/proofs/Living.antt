-- What a poll leaves of a session's lifetime, from turn to turn.
use Rattle.std.proofs.Common.{◌≡◌, ◌⊎◌, inl, inr, ℕ, ◌+◌, ◌<◌, ◌≤◌, List, length, take, drop, Bool, true, false, cond, Result, Ok, Err, IfOk, refl, sym, ap, ◌∙◌, subst, arith, length-append, if◌then◌else◌}
use Rattle.std.proofs.Math.Nat.{eq-or-lt_of_le}
use Rattle.std.proofs.lemmas.List.{length-take-le}
use Rattle.std.proofs.lemmas.Bool.{lt-ltb, le-ltb}
use Rattle.my_session.specs.View.{Lifetime, first_lifetime, last_io_after, lived}
use Rattle.my_machine.specs.Stands.{with_owed}
use Rattle.my_session.specs.Sessions.{Seen, with_sent, with_taken}
use Rattle.my_session.specs.View.{View}
use Rattle.my_client.specs.Lives.{Lives, made_in}

-- a payload was read
is_now : (now taken before unread last : ℕ) → unread < before + taken → last_io_after now taken before unread last ≡ now
is_now now taken before unread last less = ap (λ b. if b then now else last) (lt-ltb unread (before + taken) less)

-- none was read
is_last : (now taken before unread last : ℕ) → before + taken ≤ unread → last_io_after now taken before unread last ≡ last
is_last now taken before unread last most = ap (λ b. if b then now else last) (le-ltb unread (before + taken) most)

-- one part of a poll, and another
both_moments : (now n m a b c last : ℕ) → b ≤ a + n → c ≤ b + m → last_io_after now m b c (last_io_after now n a b last) ≡ last_io_after now (n + m) a c last
both_moments now n m a b c last first second = by_last (eq-or-lt_of_le second)
  where
    by_first : c ≡ b + m → (b ≡ a + n) ⊎ (b < a + n) → last_io_after now m b c (last_io_after now n a b last) ≡ last_io_after now (n + m) a c last
    by_first same (inl e) = is_last now m b c (last_io_after now n a b last) (omega (arith, same)) ∙ is_last now n a b last (omega (arith, e)) ∙ sym (is_last now (n + m) a c last (omega (arith, same, e)))
    by_first same (inr less) = is_last now m b c (last_io_after now n a b last) (omega (arith, same)) ∙ is_now now n a b last less ∙ sym (is_now now (n + m) a c last (omega (arith, same, less)))

    by_last : (c ≡ b + m) ⊎ (c < b + m) → last_io_after now m b c (last_io_after now n a b last) ≡ last_io_after now (n + m) a c last
    by_last (inl same) = by_first same (eq-or-lt_of_le first)
    by_last (inr less) = is_now now m b c (last_io_after now n a b last) less ∙ sym (is_now now (n + m) a c last (omega (arith, less, first)))

abbrev with_last : Lifetime → ℕ → Lifetime
with_last l last = record { opts = l.opts; is_socket = l.is_socket; deadline = l.deadline; last_io = last }

pub lives_on : (now n m : ℕ) (a b c : View) → Lives now n a b → Lives now m b c → Lives now (n + m) a c
lives_on now n m a b c first second = record {
  shorter = omega (arith, first.shorter, second.shorter);
  lifetime = second.lifetime
      ∙ ap (lived now m (length b.seen.stand.unread) (length c.seen.stand.unread)) first.lifetime
      ∙ ap (with_last a.lifetime) (both_moments now n m (length a.seen.stand.unread) (length b.seen.stand.unread) (length c.seen.stand.unread) a.lifetime.last_io first.shorter second.shorter);
}

pub lives_both : (now n m k : ℕ) (a b c : View) → n + m ≡ k → Lives now n a b → Lives now m b c → Lives now k a c
lives_both now n m k a b c same first second = subst (λ i. Lives now i a c) same (lives_on now n m a b c first second)

-- nothing was read, where the bytes that came are unread after those before
pub lives_still : (now n : ℕ) (a b : View) → length b.seen.stand.unread ≡ length a.seen.stand.unread + n → b.lifetime ≡ a.lifetime → Lives now n a b
lives_still now n a b count same = record {
  shorter = omega (arith, count);
  lifetime = same ∙ sym (ap (with_last a.lifetime) (is_last now n (length a.seen.stand.unread) (length b.seen.stand.unread) a.lifetime.last_io (omega (arith, count))));
}

-- bytes were received
pub lives_took : (now n : ℕ) (a b : View) (got bytes : List ℕ) → bytes ≡ take n got → n ≤ length got → b.seen ≡ with_taken bytes a.seen → b.lifetime ≡ a.lifetime → Lives now n a b
lives_took now n a b got bytes is within seen same =
    let count : length bytes ≡ n = ap length is ∙ length-take-le n got within in
    let all = ap (λ (s : Seen). length s.stand.unread) seen ∙ length-append a.seen.stand.unread bytes in
    lives_still now n a b (omega (arith, count, all)) same

-- one call of the session that reads nothing, and a step after it
pub lives_then : (now n : ℕ) (a b c : View) → Lives now 0 a b → Lives now n b c → Lives now n a c
lives_then now n a b c first second = lives_both now 0 n n a b c (omega arith) first second

pub each_ok : {X Y : Type 0} (r : Result X Y) (P : X → Type 0) → ((x : X) → P x) → IfOk r P
each_ok (Ok x) P f = f x
each_ok (Err e) P f = tt

-- by a step
pub lives_by : (now : ℕ) (a b : View) → length b.seen.stand.unread ≤ length a.seen.stand.unread → b.lifetime ≡ lived now 0 (length a.seen.stand.unread) (length b.seen.stand.unread) a.lifetime → Lives now 0 a b
lives_by now a b shorter lifetime = record { shorter = omega (arith, shorter); lifetime = lifetime }

-- bytes that are sent leave what is unread
pub sent_unread : (n : ℕ) (s : Seen) → length (with_sent n s).stand.unread ≡ length s.stand.unread
sent_unread n s = by_closed s.closed
  where
    by_closed : (b : Bool) → length (cond {A = Seen} b s (record s { stand = with_owed (drop n s.stand.owed) s.stand })).stand.unread ≡ length s.stand.unread
    by_closed true = refl
    by_closed false = refl

-- what the session was made with
pub made_same : (a b : View) → b.lifetime ≡ a.lifetime → made_in b ≡ made_in a
made_same a b e = ap (λ (l : Lifetime). first_lifetime l.opts l.is_socket l.deadline) e

pub made_lived : (now n m : ℕ) (a b : View) → b.lifetime ≡ lived now 0 n m a.lifetime → made_in b ≡ made_in a
made_lived now n m a b e = ap (λ (l : Lifetime). first_lifetime l.opts l.is_socket l.deadline) e
