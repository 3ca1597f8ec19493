use Rattle.std.proofs.Common.{ℕ, List, get_or, Fits, w8, rules}
use Rattle.my_frame.specs.FrontLaws.{AreBytes}
use Rattle.my_frame.proofs.Meanings.{front_means}
use Rattle.my_frame.proofs.front.payload_in_front.Goals as goal

are_bytes : (bytes : List ℕ) → ((k : ℕ) → Fits w8 (get_or bytes k 0)) → AreBytes bytes
are_bytes bytes fits = record { below = λ k. let below = fits k in search rules }

pub returns-in-Ok-None-clause-means : goal.returns-in-Ok-None-clause-means
returns-in-Ok-None-clause-means c = front_means _ _ _ (are_bytes _ c.type_inv.bytes)

pub returns-in-Err-clause-means : goal.returns-in-Err-clause-means
returns-in-Err-clause-means c = front_means _ _ _ (are_bytes _ c.type_inv.bytes)

pub returns-in-Ok-clause-means : goal.returns-in-Ok-clause-means
returns-in-Ok-clause-means c = front_means _ _ _ (are_bytes _ c.type_inv.bytes)

pub returns-in-Err-gather-clause-means : goal.returns-in-Err-gather-clause-means
returns-in-Err-gather-clause-means c = front_means _ _ _ (are_bytes _ c.type_inv.bytes)
