-- What a read of an item says, by what it returned.
use Rattle.std.proofs.Common.{◌≡◌, Option, Some, None, Ok, subst}
use Rattle.my_link.specs.Looks.{Looks}
use Rattle.my_value.specs.RowParts.{RowParts}
use Rattle.my_conn.specs.Conn.{ConnSeen}
use Rattle.my_rows.specs.Reads.{ItemIs, ReadsEnd}

module _ {L T : Type 0} (look : L → Looks) (converts : RowParts → Type 0) (becomes : RowParts → T → Type 0) (old new : ConnSeen L)
    (x : Option T) where
  pub item_read : (item : T) → x ≡ Some item → ItemIs look converts becomes old new (Ok x)
      → ItemIs look converts becomes old new (Ok (Some item))
  item_read item e i = subst (λ (y : Option T). ItemIs look converts becomes old new (Ok y)) e i

  pub end_read : x ≡ None → ItemIs look converts becomes old new (Ok x) → ReadsEnd look old new
  end_read e i = subst (λ (y : Option T). ItemIs look converts becomes old new (Ok y)) e i
