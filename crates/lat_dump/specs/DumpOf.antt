-- What is printed of a whole file.
use Rattle.std.specs.Prelude.{ℕ, List, ◌++◌, Option, Some, None}
use Rattle.std.specs.List.{flat_map}
use Rattle.lat_pcap.specs.declared.fault.Wrong.{Wrong}
use Rattle.lat_pcap.specs.declared.contents.Contents.{Contents}
use Rattle.lat_pcap.specs.Held.{contents_of}
use Rattle.lat_dump.specs.Printed.{frame_printed, others_printed, wrong_printed}

-- the frames, in order, and how many others there are
abbrev pub frames_text : Contents → List ℕ
frames_text c = flat_map frame_printed c.frames ++ others_printed c.others

-- status 0, or status 2 with the first part that is wrong behind what is read in front of it
abbrev pub ended_by : Option Wrong → List ℕ → ℕ × List ℕ
ended_by None text = (0, text)
ended_by (Some wrong) text = (2, text ++ wrong_printed wrong)

-- the status and the text for what a file holds
abbrev pub dump_text : Contents → ℕ × List ℕ
dump_text c = ended_by c.wrong (frames_text c)

-- the status and the text for the bytes of a file
abbrev pub dump_of : List ℕ → ℕ × List ℕ
dump_of input = dump_text (contents_of input)
