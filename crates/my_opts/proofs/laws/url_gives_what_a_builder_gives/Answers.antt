use Rattle.my_opts.proofs.BuiltLemmas.{gives-built}
use Rattle.my_opts.proofs.laws.url_gives_what_a_builder_gives.Goals as goal

pub returns : goal.returns
returns c = gives-built c.args.text.now
