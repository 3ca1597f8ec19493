use Rattle.my_connect.proofs.client.Client.disconnect.Goals as goal

pub returns : goal.returns
returns g c = rw (← c.self.view_is) c.disconnect.ensures
