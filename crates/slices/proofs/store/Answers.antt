-- `slices::store` meets its contract.
use Rattle.slices.proofs.Stores.{stored-rest}
use Rattle.slices.proofs.store.Goals as goal

pub returns : goal.returns
returns c = stored-rest _ _ _ _ c.min-start.ensures c.copy.ensures
