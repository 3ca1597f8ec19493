use Rattle.std.proofs.Common.{◌≡◌, subst}
use Rattle.std.specs.Bool.{Decides}
use Rattle.my_handshake.specs.declared.version.ServerVersion.{ServerVersion}
use Rattle.my_run_judge.proofs.polling.is_version.Goals as goal

pub returns : goal.returns
returns c = subst (λ (v : ServerVersion). Decides c.is_same_version-same.result (c.args.version.now ≡ v)) c.server_version-found.ensures c.is_same_version-same.ensures
