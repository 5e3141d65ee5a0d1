mod Answering
mod Cuts
mod KeptLines
mod Served
