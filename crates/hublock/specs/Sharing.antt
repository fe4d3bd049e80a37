-- What a hold of the hub behind its lock tells.
--     SharedState      its feed and its role
use Rattle.push_base.specs.declared.role.Role.{Role}
use Rattle.hublock.specs.Feeds.{FeedState}

pub record SharedState : Type 0 where
  pub feed : FeedState
  pub role : Role

abbrev pub with_feed : SharedState → FeedState → SharedState
with_feed state feed = record state { feed = feed }
