-- The jobs of the loops.
--     role_in work      the role of a job that does this
--     GivesBack      the datagrams of a link's job are given back
use Rattle.std.specs.Prelude.{◌≡◌, None, IsSome}
use Rattle.std.specs.declared.option.Option.{Option}
use Rattle.push_base.specs.declared.role.Role.{Role}
use Rattle.push_base.specs.declared.role.Role.TheVariants as roles
use Rattle.hubloops.specs.declared.jobs.Work.{Work}
use Rattle.hubloops.specs.declared.jobs.Work.TheVariants as works

abbrev pub role_in : {L K D T : Type 0} → Work L K D T → Role
role_in (works.Read session line) = roles.Reader session
role_in (works.Write session wire) = roles.Writer session
role_in (works.Hear link datagrams) = roles.Link link
role_in (works.Tick clock) = roles.Clock

-- the datagrams of a link's job are given back, and other jobs have none
abbrev pub GivesBack : {D : Type 0} → Role → Option D → Type 0
GivesBack (roles.Link link) links = IsSome links
GivesBack _ links = links ≡ None
