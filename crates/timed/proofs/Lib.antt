mod Mapped
mod Table
mod Turns
