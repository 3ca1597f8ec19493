use Rattle.std.proofs.Common.{ℕ, List, subst}
use Rattle.std.specs.Prelude.{MatchBool}
use Rattle.my_opts.specs.Opts.{OptsView}
use Rattle.my_opts_parts.specs.Loopback.{IsElsewhere, IsLoopback}
use Rattle.my_opts.proofs.opts.Opts.addr_is_loopback.Goals as goal

pub returns : goal.returns
returns c =
    let said : List ℕ → OptsView → Type 0 = λ host o.
    MatchBool c.is_loopback.result (IsLoopback o.resolved_ips host) (IsElsewhere o.resolved_ips host) in
    let of_host = subst (λ (host : List ℕ). MatchBool c.is_loopback.result (IsLoopback c.self.inside.resolved_ips host) (IsElsewhere c.self.inside.resolved_ips host)) c.as_str.ensures c.is_loopback.ensures in
    subst (λ (o : OptsView). said o.ip_or_hostname o) c.self.view_is of_host
