-- How many of each thing there can be.
use Rattle.std.specs.Prelude.{ℕ}
use Rattle.sky_model.specs.declared.reply.Limit.{Limit}
use Rattle.sky_model.specs.declared.reply.Limit.TheVariants.{Sessions, Databases, Queues, Consumers, Tables, Columns, Triggers}

abbrev pub most_of : Limit → ℕ
most_of Sessions = 256
most_of Databases = 16
most_of Queues = 64
most_of Consumers = 256
most_of Tables = 64
most_of Columns = 32
most_of Triggers = 8
