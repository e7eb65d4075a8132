-- THE ARGUMENT, from the language's meaning to a machine that is given lines in pieces.
--
-- The meaning says by recursion what a program does, with a number that bounds how deep it may go. A machine in memory goes step by step. Between the two
-- stands a stack machine over the meaning's own states (Stack): each of its instructions calls the meaning's own operation, and its program is a list of
-- instructions (Code). The meaning counts what is to be held at certain points; at the same points the code has notes, which do nothing else.
--
-- By induction on the depth, the code of each term and statement leads the machine to what the meaning says of it. Where the meaning was cut off, the machine
-- has made at least as many steps as the depth. So whatever the machine does in n steps is meant at the depth n, and the other direction needs no argument of
-- its own: proofs/Simulation, and proofs/Programs for whole runs (Forward, Back, Ended, Room of Theorems).
--
-- A run over all lines knows them from the start. A live run (Lines) has only the bytes that came. With any bytes that may still come, it is a run over all
-- lines, step by step; so what holds at its end and what holds where it waits are one fact: proofs/Pieces (InPieces, WaitingDone).
--
-- An engine follows the live run turn by turn (Engine): how memory stands for a run is up to it, and what it owes is said of one turn. From this follows all
-- that is promised: nothing is written that isn't meant, everything meant is written some time, it ends as it should. proofs/Turns, proofs/Composition
-- (Promised).
--
-- What an engine may rely on: everything that a run comes to has its texts and numbers within limits, and a stack on which each instruction finds what it
-- takes. The second needs no look at the code: a machine that did not find it would end with a number that the meaning never gives. proofs/Invariants,
-- proofs/Reading (SoundRuns). What is pushed is noted before the next: proofs/Notes (NotedCode, FullNotes). And code is short: proofs/Sizes (ShortCode).
--
-- Apart from all this stand laws of patterns and tables: proofs/Patterns, proofs/Tables.
pub mod Stack
pub mod Code
pub mod Lines
pub mod Invariants
pub mod Engine
pub mod Theorems
pub mod Example
