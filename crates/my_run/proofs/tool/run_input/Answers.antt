use Rattle.std.proofs.Common.{◌≡◌, inl, refl, sym, ap, subst, rules}
use Rattle.my_frame.specs.declared.limits.TheConstants.{MOST_INPUT}
use Rattle.my_run.specs.declared.input.Came.{Came}
use Rattle.my_run.specs.Input.{CameIs}
use Rattle.my_script.specs.Script.{script_of}
use Rattle.my_run.proofs.Stopping.{blank_stop}
use Rattle.my_run.proofs.tool.run_input.Goals as goal

pub returns-in-Ok-Whole : goal.returns-in-Ok-Whole
returns-in-Ok-Whole g c =
    let same : c.deref.result.now ≡ c.in-Ok-Whole.bytes.items = search rules in
    λ words command asked planned. c.run_text.ensures words (g.S.Source.seen c.args.src.now) (g.S.Source.seen c.read_all.new.src) (record {
      command = command;
      asked = asked;
      plans = planned;
      bytes = c.in-Ok-Whole.bytes.items;
      read = subst (λ (x : Came). CameIs MOST_INPUT (g.S.Source.seen c.args.src.now) (g.S.Source.seen c.read_all.new.src) x) c.in-Ok-Whole.field-0-is c.in-Ok-Whole.ensures;
      lines = ap (script_of c.args.plans) (sym same);
    })

pub returns-in-Err : goal.returns-in-Err
returns-in-Err g c = λ words command asked planned. blank_stop words (g.N.Dialer.seen c.args.world.now) (g.N.Dialer.seen c.args.world.now) (g.S.Source.seen c.args.src.now) (g.S.Source.seen c.read_all.new.src) (g.W.Sink.seen c.args.out.now) (g.W.Sink.seen c.args.out.now) c.blank.result c.blank.ensures.status refl c.blank.ensures.answers c.blank.ensures.tapes (inl refl)
