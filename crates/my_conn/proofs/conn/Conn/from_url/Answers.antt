use Rattle.my_opts.specs.Url.{options_of}
use Rattle.my_conn.proofs.Making.{no_memory_so}
use Rattle.my_conn.proofs.Refusing.{new_refused}
use Rattle.my_conn.proofs.conn.Conn.from_url.Goals as goal

pub returns-in-Err-NoMemory-clause-news : goal.returns-in-Err-NoMemory-clause-news
returns-in-Err-NoMemory-clause-news g c = rw (c.untaped-in-Err-NoMemory.ensures) (no_memory_so g.L.Link.looks (options_of c.args.url.now) _ c.args.link)

pub returns-in-Ok-clause-refused : goal.returns-in-Ok-clause-refused
returns-in-Ok-clause-refused g c = new_refused g.L.Link.looks _ _ (options_of c.args.url.now) c.new.result c.new.ensures
