use Rattle.std.proofs.Common.{inl, refl, ap, ◌∙◌}
use Rattle.my_opts_parts.specs.Pool.{deadline_of}
use Rattle.my_session.specs.Login.{login_of}
use Rattle.my_session.specs.View.{first_lifetime}
use Rattle.my_client.specs.Waits.{IsShaken}
use Rattle.my_conn.specs.News.{Given, IsFirst, given_by}
use Rattle.my_conn.proofs.Making.{new_is, unread_first}
use Rattle.my_conn.proofs.conn.Conn.new.Goals as goal

pub returns-in-Err : goal.returns-in-Err
returns-in-Err g c = rw (c.untaped.ensures) (record { why = inl refl; tape = refl })

pub made-requires : goal.made-requires
made-requires g c =
    let login = login_of c.args.opts in
    let u = c.in-Ok-shake_hands.ensures.shakes login c.in-Ok.ensures.begins in
    (login, u.end, u.stands)

pub returns-in-Err-shake_hands : goal.returns-in-Err-shake_hands
returns-in-Err-shake_hands g c =
    rw (c.untaped-in-Err-shake_hands.ensures) (record {
      why = c.in-Err-shake_hands.ensures.shakes (login_of c.args.opts) c.in-Ok.ensures.begins;
      tape = refl;
    })

pub returns-in-Ok-shake_hands : goal.returns-in-Ok-shake_hands
returns-in-Ok-shake_hands g c =
    let look = g.L.Link.looks in
    let login = login_of c.args.opts in
    let given : Given = given_by look g.L.Link.socket c.args.link c.args.now c.args.random in
    let first : IsFirst c.args.opts given c.in-Ok.begun.0 = record { unread = unread_first login _ _ c.in-Ok.ensures.begins; lifetime = c.in-Ok.ensures.lifetime ∙ ap (λ b. first_lifetime c.args.opts b (deadline_of c.args.opts.pool_opts c.args.now c.args.random)) c.is_socket.ensures } in
    let shaken : IsShaken login c.args.now (look c.args.link) (look c.shake_hands.new.link) c.in-Ok.begun.0 c.shake_hands.new.session c.shake_hands.new.tape = c.in-Ok-shake_hands.ensures.shakes login c.in-Ok.ensures.begins in
    rw (c.made.ensures) (new_is look c.args.opts given c.first-fixed.result c.in-Ok.begun.0 c.shake_hands.new.session c.shake_hands.new.link c.shake_hands.new.tape c.first-fixed.ensures first shaken (c.in-Ok-shake_hands.ensures.keeps ∙ c.in-Ok.ensures.tape))
