use Rattle.mob_ending.proofs.note.put_read_fault.Goals as goal

pub returns-in-None : goal.returns-in-None
returns-in-None g c = record { puts = rw c.in-None.is c.put_all.ensures.puts }

pub returns-in-Some : goal.returns-in-Some
returns-in-Some g c = let puts = rw c.as_str.ensures.same at c.put_file_fault.ensures.puts in record { puts = rw c.in-Some.is puts }
