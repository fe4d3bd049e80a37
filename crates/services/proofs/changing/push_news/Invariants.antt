use Rattle.std.proofs.Common.{◌≡◌, ◌++◌, drop}
use Rattle.services.specs.Services.{news_of}
use Rattle.services.proofs.changing.push_news.Given as goal

-- what was appended, and the services that are left
abbrev pub invariant-services : goal.invariant-services
invariant-services l = l.out ++ news_of l.fn.old (drop l.service-index l.fn.new) ≡ l.fn.out ++ news_of l.fn.old l.fn.new
