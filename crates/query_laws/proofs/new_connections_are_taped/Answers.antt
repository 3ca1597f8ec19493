use Rattle.query_laws.proofs.Beginning as law
use Rattle.query_laws.proofs.new_connections_are_taped.Goals as goal

pub returns : goal.returns
returns g c = law.new_is_taped _
