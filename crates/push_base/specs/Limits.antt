-- Limits; where no standard is named they are this project's own. Each number stands in `limits` alone.
--     max_octets_at_name, max_home_octets, max_datagram, max_input      octets
--     max_questions, max_number, max_moment      counts
use Rattle.std.specs.Prelude.{ℕ}
use Rattle.push_base.specs.declared.limits.TheConstants as limits

-- the octets of the records of one name
abbrev pub max_octets_at_name : ℕ
max_octets_at_name = limits.MAX_OCTETS_AT_NAME

-- the octets of the name of a zone or a link
abbrev pub max_home_octets : ℕ
max_home_octets = limits.MAX_HOME_OCTETS

-- the octets of a datagram of a link (RFC 6762, 17)
abbrev pub max_datagram : ℕ
max_datagram = limits.MAX_DATAGRAM

-- the last moment, in milliseconds
abbrev pub max_moment : ℕ
max_moment = limits.MAX_MOMENT

-- the questions of a client, and the subscriptions of a session
abbrev pub max_questions : ℕ
max_questions = limits.MAX_QUESTIONS

-- the octets that one end keeps unread
abbrev pub max_input : ℕ
max_input = limits.MAX_INPUT

-- numbers that only rise stop here
abbrev pub max_number : ℕ
max_number = limits.MAX_NUMBER
