use Rattle.my_connect.proofs.client.Client.quit.Goals as goal

pub returns : goal.returns
returns g c = rw (← c.self.view_is) (c.disconnect-ended.result.1, c.disconnect-ended.ensures)
