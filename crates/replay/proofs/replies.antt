-- What a script is answered, and what is written of it.
pub mod ScriptReplies
