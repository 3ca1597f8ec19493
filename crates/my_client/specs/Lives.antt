-- What polls leave of a session's lifetime.
use Rattle.std.specs.Prelude.{ℕ, ◌≡◌, ◌≤◌, ◌+◌, length}
use Rattle.my_session.specs.View.{Lifetime, first_lifetime, lived}
use Rattle.my_session.specs.View.{View}

-- At this moment some bytes were received. Whole payloads were read exactly where fewer bytes are unread than before and came, and then
-- this is the moment of the last one.
pub record Lives (now taken : ℕ) (old new : View) : Type 0 where
  pub shorter : length new.seen.stand.unread ≤ length old.seen.stand.unread + taken
  pub lifetime : new.lifetime ≡ lived now taken (length old.seen.stand.unread) (length new.seen.stand.unread) old.lifetime

-- what a session was made with: polls leave it, also out of memory
abbrev pub made_in : View → Lifetime
made_in v = first_lifetime v.lifetime.opts v.lifetime.is_socket v.lifetime.deadline
