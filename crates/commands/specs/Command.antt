-- What a command stands for.
--     asked      what it asks for
use Rattle.commands.specs.Words.{Request, On_input, At_path, Big, Serve, Subscribe}
use Rattle.commands.specs.declared.command_line.Command.{Command}
use Rattle.commands.specs.declared.command_line.Command.TheVariants as commands

abbrev pub asked : Command → Request
asked (commands.OnInput task) = On_input task
asked (commands.AtPath task path) = At_path task path.now
asked (commands.Big number) = Big number
asked (commands.Serve path) = Serve path.now
asked (commands.Subscribe path) = Subscribe path.now
