-- How a refused event of a schedule is told.
use Rattle.lat_wire.specs.declared.fault.EventFault.{EventFault}
use Rattle.lat_wire.specs.declared.fault.EventFault.TheVariants as faults
use Rattle.lat_wire.specs.declared.report.refused.Refused.{Refused}
use Rattle.lat_wire.specs.declared.report.refused.Refused.TheVariants as lines

-- what the line says; want of memory has no line
abbrev pub refused_of : EventFault → Refused
refused_of faults.FramesFull = lines.FramesLimit
refused_of (faults.Backward at last) = lines.Backward at last
refused_of faults.OwnAddress = lines.OwnAddress
refused_of (faults.NoFrame index sent) = lines.NoFrame index sent
refused_of (faults.Old acknowledgement number newest) = lines.Old acknowledgement number newest
refused_of faults.Memory = lines.FramesLimit
