use Rattle.mob_ending.proofs.note.put_line.Goals as goal

pub returns-in-Usage : goal.returns-in-Usage
returns-in-Usage g c = record { puts = rw c.in-Usage.is c.put_all.ensures.puts }

pub returns-in-WriteFault : goal.returns-in-WriteFault
returns-in-WriteFault g c = record { puts = rw c.in-WriteFault.is c.put_all-in-WriteFault.ensures.puts }
