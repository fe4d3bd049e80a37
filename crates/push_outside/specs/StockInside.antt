-- What the fields of a stock stand for.
--     stock_state      what it is seen as
use Rattle.push_outside.specs.Shelves.{StockState}
use Rattle.push_outside.specs.declared.stock.Stock.TheInside.{Inside}

abbrev pub stock_state : {T : Type 0} → Inside T → StockState T
stock_state s = record { items = s.items.items; words = s.words.items }
