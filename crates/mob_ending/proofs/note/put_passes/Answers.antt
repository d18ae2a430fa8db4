use Rattle.mob_ending.proofs.note.put_passes.Goals as goal

pub returns : goal.returns
returns g c = record {
  puts = rw (c.as_slice.ensures, c.as_bytes.ensures.value, c.format.ensures.text, c.as_slice-2.ensures, c.as_bytes-2.ensures.value, c.what_passes.ensures.what, c.as_slice-3.ensures) at c.put_pieces.ensures.puts;
}
