mod Packets
mod Retirals
mod Notings
mod Steps
