-- What clauses see of a session.
use Rattle.std.specs.Prelude.{ℕ, ◌+◌, nat_lt, Option, Bool, if◌then◌else◌}
use Rattle.my_opts.specs.Opts.{OptsView}
use Rattle.my_session.specs.Login.{without_account}
use Rattle.my_session.specs.Sessions.{Seen}

-- What a session was made with: its options but for their account, which a change of user changes, whether its link is a local socket,
-- and the moment at which it ends, where it has one; and the moment of the last whole payload, 0 before the first.
pub record Lifetime : Type 0 where
  pub opts : OptsView
  pub is_socket : Bool
  pub deadline : Option ℕ
  pub last_io : ℕ

pub record View : Type 0 where
  pub seen : Seen
  pub lifetime : Lifetime

-- before the first payload
abbrev pub first_lifetime : OptsView → Bool → Option ℕ → Lifetime
first_lifetime opts is_socket deadline =
    record { opts = without_account opts; is_socket = is_socket; deadline = deadline; last_io = 0 }

-- after calls that received some bytes: a payload was read exactly where fewer are unread than were unread before and came
abbrev pub last_io_after : (now taken before unread last_io : ℕ) → ℕ
last_io_after now taken before unread last_io = if nat_lt unread (before + taken) then now else last_io

abbrev pub lived : (now taken before unread : ℕ) → Lifetime → Lifetime
lived now taken before unread l = record {
  opts = l.opts;
  is_socket = l.is_socket;
  deadline = l.deadline;
  last_io = last_io_after now taken before unread l.last_io;
}
